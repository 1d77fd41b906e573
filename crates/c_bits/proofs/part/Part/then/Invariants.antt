-- The bytes so far stand after the part.
use Rattle.std.proofs.Common.{◌≡◌, ◌+◌, ◌*◌, ◌++◌, take}
use Rattle.lk_base.specs.Checksum.{bits_of, bits_of_bytes}
use Rattle.c_bits.proofs.part.Part.then.Given as goal

abbrev pub invariant-loop-byte : goal.invariant-loop-byte
invariant-loop-byte l = bits_of (l.fn.self.count + 8 * l.byte-index) l.number ≡ bits_of l.fn.self.count l.fn.self.bits ++ bits_of_bytes (take l.byte-index l.bytes)
