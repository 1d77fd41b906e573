use Rattle.std.proofs.Common.{◌≡◌, ◌*◌, length, map, take}
use Rattle.lk_base.specs.declared.word.Word.TheVariants.{Data}
use Rattle.words_files.specs.WordsFile.{words_file}
use Rattle.words_files.proofs.writer.write_data.Given as goal

-- the file of the words before is there
abbrev pub invariant-loop-place : goal.invariant-loop-place
invariant-loop-place l = (length l.bytes ≡ length l.fn.bytes) × (take (9 * l.place) l.bytes ≡ words_file (map Data (take l.place l.numbers)))
