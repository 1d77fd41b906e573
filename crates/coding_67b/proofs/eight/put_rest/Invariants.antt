use Rattle.std.proofs.Common.{◌≡◌, ◌+◌, ◌-◌, ◌*◌, ◌++◌, length, take}
use Rattle.lk_base.specs.Checksum.{bits_of_bytes}
use Rattle.coding_67b.proofs.eight.put_rest.Given as goal

-- the bytes so far and the bits that wait are those of the start
abbrev pub invariant-loop-place : goal.invariant-loop-place
invariant-loop-place l =
    (bits_of_bytes (take l.place l.bytes) ++ l.bits ≡ bits_of_bytes (take l.at l.initial.bytes) ++ l.initial.bits)
    × (length l.bits ≡ 8 * (l.at + 3 - l.place))
