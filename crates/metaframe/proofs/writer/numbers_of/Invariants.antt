use Rattle.std.proofs.Common.{◌≡◌, length, map, take}
use Rattle.lk_base.specs.Words.{payload}
use Rattle.metaframe.proofs.writer.numbers_of.Given as goal

-- the first numbers are there
abbrev pub invariant-loop-place : goal.invariant-loop-place
invariant-loop-place l = (take l.place l.numbers ≡ map payload (take l.place l.words)) × (length l.numbers ≡ 8)
