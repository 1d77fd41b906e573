-- The first words are there.
use Rattle.std.proofs.Common.{◌≡◌, length, take}
use Rattle.lane_lock.specs.Run.{words_with}
use Rattle.lane_lock.proofs.words.words_with.Given as goal

abbrev pub invariant-loop-place : goal.invariant-loop-place
invariant-loop-place l = (take l.place l.words ≡ words_with (take l.place l.codes) (take l.place l.numbers)) × (length l.words ≡ 8)
