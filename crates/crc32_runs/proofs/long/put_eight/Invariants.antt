use Rattle.std.proofs.Common.{◌≡◌, ◌+◌, ◌++◌, length, take}
use Rattle.crc32_runs.proofs.long.put_eight.Given as goal

-- the first words are put
abbrev pub invariant-loop-place : goal.invariant-loop-place
invariant-loop-place l = (take (l.at + l.place) l.words ≡ take l.at l.fn.words ++ take l.place l.eight) × (length l.words ≡ length l.fn.words)
