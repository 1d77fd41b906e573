use Rattle.std.proofs.Common.{◌≡◌, ◌*◌, length, take}
use Rattle.lane_words.specs.WordsFile.{rx_words_file}
use Rattle.lane_words.proofs.words.write_words.Given as goal

-- the file of the words before is there
abbrev pub invariant-loop-place : goal.invariant-loop-place
invariant-loop-place l = (length l.bytes ≡ length l.fn.bytes) × (take (9 * l.place) l.bytes ≡ rx_words_file (take l.place l.words))
