-- The numbers so far are those of the words.
use Rattle.std.proofs.Common.{◌≡◌, length, map, take, drop}
use Rattle.words_files.specs.declared.file_word.FileWord.TheVariants as file
use Rattle.words_files.proofs.Copied.{words_in}
use Rattle.words_files.proofs.file_words.copy_numbers.Given as goal

abbrev pub invariant-loop-place : goal.invariant-loop-place
invariant-loop-place l = record {
  long : length l.numbers ≡ length l.fn.numbers;
  copied : map file.Data (take l.place l.numbers) ≡ take l.place (drop l.from (words_in l.bytes));
}
