-- The data words of a run are written at once, or one word.
use Rattle.std.proofs.Common.{◌∙◌, ◌*◌, ◌++◌, ◌≤◌, ℕ, List, [], ◌∷◌, map, take, refl, sym, ap, subst, arith, append-nil}
use Rattle.lk_base.specs.declared.word.Word.{Word}
use Rattle.lk_base.specs.declared.word.Word.TheVariants.{Data}
use Rattle.stream_model.specs.BurstStream.{Source}
use Rattle.tx_words.specs.Streaming.{Streams, last_streamed}
use Rattle.tx_words.specs.declared.stream_words.StreamWords.{StreamWords}
use Rattle.words_files.specs.FileWord.{nine_bytes}
use Rattle.words_files.specs.WordsFile.{word_bytes, words_file}
use Rattle.stream_commands.proofs.WordsSent.{no_data}
use Rattle.stream_commands.proofs.words_maker.write_few.Goals as goal

pub next_data-count-requires : goal.next_data-count-requires
next_data-count-requires c = c.requires.streams

pub write_data-requires : goal.write_data-requires
write_data-requires c =
    let many = c.last_data.ensures.count in
    let within = c.next_data-count.ensures.within in
    omega (arith, many, within)

pub returns-then-count-gt0-clause-file : goal.returns-then-count-gt0-clause-file
returns-then-count-gt0-clause-file c source made k = record {
  more = map Data (last_streamed c.next_data-count.new.self c.next_data-count.result);
  streams = c.next_data-count.ensures.given source made k;
  file = ap (λ i. take (9 * i) c.write_data.new.bytes) (sym c.last_data.ensures.count) ∙ c.write_data.ensures.file ∙ ap (λ (xs : List ℕ). words_file (map Data xs)) c.last_data.ensures.numbers;
}

-- where no data word is next, the maker is where it was
unmoved : (old new : StreamWords) (n : ℕ) → n ≤ 0 → ((source : Source) (made : List Word) → Streams old source made → Streams new source (made ++ map Data (last_streamed new n)))
    → (source : Source) (made : List Word) → Streams old source made → Streams new source made
unmoved old new n none given source made k = subst (Streams new source) (no_data new made n none) (given source made k)

pub next-requires : goal.next-requires
next-requires c = let (source, made, k) = c.requires.streams in (source, _, c.next_data-count.ensures.given source made k)

pub returns-in-Some-clause-file : goal.returns-in-Some-clause-file
returns-in-Some-clause-file c source made k =
    let word = c.in-Some.word in
    let here = unmoved c.args.words.now c.next_data-count.new.self c.next_data-count.result c.if-count-gt0.false c.next_data-count.ensures.given source made k in
    record {
      more = word ∷ [];
      streams = c.next.ensures.some source made word here c.in-Some.is;
      file = c.write_word.ensures.put ∙ ap nine_bytes c.from.ensures ∙ sym (append-nil (word_bytes word));
    }

pub returns-in-None-clause-file : goal.returns-in-None-clause-file
returns-in-None-clause-file c source made k =
    let here = unmoved c.args.words.now c.next_data-count.new.self c.next_data-count.result c.if-count-gt0.false c.next_data-count.ensures.given source made k in
    record {
      more = [];
      streams = subst (Streams c.next.new.self source) (sym (append-nil made)) (c.next.ensures.none source made here c.in-None.is).0;
      file = refl;
    }

pub returns-in-None-clause-whole : goal.returns-in-None-clause-whole
returns-in-None-clause-whole c source made k none =
    let here = unmoved c.args.words.now c.next_data-count.new.self c.next_data-count.result c.if-count-gt0.false c.next_data-count.ensures.given source made k in
    (c.next.ensures.none source made here c.in-None.is).1
