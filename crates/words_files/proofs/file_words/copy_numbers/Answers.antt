-- A word more is a data word, or it stops the run.
use Rattle.std.proofs.Common.{◌≡◌, ◌∙◌, ◌+◌, ◌*◌, ◌<◌, ◌≤◌, ℕ, List, Some, length, take, slice_get, sym, ap, arith}
use Rattle.std.proofs.lemmas.List.{length-set}
use Rattle.words_files.specs.declared.file_word.FileWord.{FileWord}
use Rattle.words_files.specs.WordsOfFile.{file_word_in}
use Rattle.words_files.proofs.Copied.{copied-more, other-word, stopped-at, word-read, words_in}
use Rattle.words_files.proofs.file_words.copy_numbers.Goals as goal

pub returns-in_default : goal.returns-in_default
returns-in_default c =
    let at : ℕ = c.args.from + c.loop-place.place in
    let t = c.loop-place-test.true in
    let r = c.requires.there in
    let whole : 9 * at + 9 ≤ length c.args.bytes.now = omega (arith, t, r) in
    let got : slice_get (words_in c.args.bytes.now) at ≡ Some c.word_in.result =
    word-read c.args.bytes.now at whole
    ∙ ap (λ (bs : List ℕ). Some (file_word_in (take 9 bs))) (sym c.bytes_of_word.ensures)
    ∙ ap (λ (w : FileWord). Some w) (sym c.word_in.ensures.word) in
    record {
      few = omega (arith, t);
      long = c.loop-place.invariant.long;
      copied = c.loop-place.invariant.copied;
      stops = λ less. stopped-at (words_in c.args.bytes.now) at c.word_in.result got (other-word c.word_in.result c.in_default.not-Data);
    }

pub loop-place-preserved : goal.loop-place-preserved
loop-place-preserved c =
    let i : ℕ = c.loop-place.place in
    let at : ℕ = c.args.from + i in
    let t = c.loop-place-test.true in
    let r = c.requires.there in
    let room = c.requires.room in
    let long : length c.loop-place.numbers ≡ length c.args.numbers.now = c.loop-place.invariant.long in
    let whole : 9 * at + 9 ≤ length c.args.bytes.now = omega (arith, t, r) in
    let got : slice_get (words_in c.args.bytes.now) at ≡ Some c.word_in.result =
    word-read c.args.bytes.now at whole
    ∙ ap (λ (bs : List ℕ). Some (file_word_in (take 9 bs))) (sym c.bytes_of_word.ensures)
    ∙ ap (λ (w : FileWord). Some w) (sym c.word_in.ensures.word) in
    let fits : i < length c.loop-place.numbers = omega (arith, t, room, long) in
    record {
      long = length-set c.loop-place.numbers i c.in-Data.number ∙ long;
      copied = copied-more (words_in c.args.bytes.now) c.args.from i c.in-Data.number c.loop-place.numbers fits (got ∙ ap (λ (w : FileWord). Some w) c.in-Data.is) c.loop-place.invariant.copied;
    }
