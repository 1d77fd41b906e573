use Rattle.std.proofs.Common.{◌≡◌, drop, take}
use Rattle.lk_base.specs.Checksum.{bits_of_bytes}
use Rattle.damage_commands.specs.Struck.{differing}
use Rattle.damage_commands.proofs.struck.struck_bits.Given as goal

-- the bits of the bytes so far
abbrev pub invariant-loop-i : goal.invariant-loop-i
invariant-loop-i l = l.struck ≡ differing (drop l.skew (bits_of_bytes l.received)) (bits_of_bytes (take l.i l.sent))
