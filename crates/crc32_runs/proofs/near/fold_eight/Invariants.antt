use Rattle.std.proofs.Common.{◌≡◌, ◌+◌, length, drop}
use Rattle.crc32_runs.specs.Registers.{register_of}
use Rattle.crc32_runs.proofs.near.fold_eight.Given as goal

-- the words that are left lead to the register that all led to
abbrev pub invariant-loop-place : goal.invariant-loop-place
invariant-loop-place l = (register_of (drop (l.at + l.place) l.words) ≡ register_of (drop l.at l.fn.words)) × (length l.words ≡ length l.fn.words)
