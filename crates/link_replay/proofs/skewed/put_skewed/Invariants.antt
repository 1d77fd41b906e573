use Rattle.std.proofs.Common.{◌≡◌, ◌++◌, true, replicate, take}
use Rattle.lk_base.specs.Checksum.{bits_of, bits_of_bytes}
use Rattle.link_replay.proofs.skewed.put_skewed.Given as goal

-- the ones and the bytes so far
abbrev pub invariant-loop-i : goal.invariant-loop-i
invariant-loop-i l = bits_of_bytes l.out.items ++ bits_of l.count l.held ≡ replicate l.ones_before true ++ bits_of_bytes (take l.i l.sent)
