-- The word is there.
use Rattle.std.proofs.Common.{◌≡◌, ◌∙◌, None, Some, sym, get_or}
use Rattle.std.proofs.lemmas.Option.{slice_get-get_or}
use Rattle.lk_base.specs.declared.word.RxWord.TheVariants.{Bad}
use Rattle.join_commands.proofs.Steps.{one_word}
use Rattle.join_commands.proofs.words.word_at.Goals as goal

pub unreachable-requires : goal.unreachable-requires
unreachable-requires c =
    let words = c.args.words.now in
    let none : None ≡ Some (get_or words c.args.number Bad) = sym c.in_default.is ∙ c.get.ensures ∙ slice_get-get_or words c.args.number Bad c.requires in
    absurd (cc none)

pub returns : goal.returns
returns c = one_word c.args.words.now c.args.number c.in-Some.word (sym c.get.ensures ∙ c.in-Some.is)
