use Rattle.std.proofs.Common.{◌≡◌, ◌∙◌, sym, subst, List, Option, Some}
use Rattle.std.proofs.lemmas.Result.{IfOk-weaker}
use Rattle.lk_base.specs.declared.word.Word.{Word}
use Rattle.stream_model.specs.BurstStream.{Source}
use Rattle.tx_words.specs.declared.stream_words.StreamWords.{StreamWords}
use Rattle.tx_words.specs.Streaming.{Streams}
use Rattle.stream_commands.proofs.WordsSent.{same_maker}
use Rattle.stream_commands.proofs.words_maker.finish.Goals as goal

-- what is taken is what was there
taken : (words : Option StreamWords) (maker found : StreamWords) (source : Source) (made : List Word) → words ≡ Some maker → words ≡ Some found → Streams maker source made → Streams found source made
taken words maker found source made was is k = subst (λ (m : StreamWords). Streams m source made) (same_maker maker found (sym was ∙ is)) k

pub end_of-requires : goal.end_of-requires
end_of-requires c =
    let (maker, made, was, k, stream) = c.requires in (
      made,
      taken c.args.words.now maker c.in-Some.words c.args.source.now made was (sym c.take.ensures.value ∙ c.in-Some.is) k,
      stream,
    )

pub returns : goal.returns
returns c =
    IfOk-weaker c.end_of.result _ _
    (λ f is maker made was k stream. is made (taken c.args.words.now maker c.in-Some.words c.args.source.now made was (sym c.take.ensures.value ∙ c.in-Some.is) k) stream)
    c.end_of.ensures
