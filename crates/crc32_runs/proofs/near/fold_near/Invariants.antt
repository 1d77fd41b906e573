use Rattle.std.proofs.Common.{◌≡◌, ◌≤◌, ◌-◌, length, drop}
use Rattle.crc32_runs.specs.Registers.{register_of}
use Rattle.crc32_runs.proofs.near.fold_near.Given as goal

-- the words that are left lead to the register that all led to
abbrev pub invariant-loop-words : goal.invariant-loop-words
invariant-loop-words l = record {
  register : register_of (drop l.at l.words) ≡ register_of l.fn.words;
  within : l.at ≤ length l.words;
  long : length l.words ≡ length l.fn.words;
}

abbrev pub decreases-loop-words : goal.decreases-loop-words
decreases-loop-words l = length l.fn.words - l.at
