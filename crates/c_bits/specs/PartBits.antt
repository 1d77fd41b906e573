-- The bits of a part of a byte.
use Rattle.std.specs.Prelude.{Bool, List}
use Rattle.lk_base.specs.Checksum.{bits_of}
use Rattle.c_bits.specs.declared.part.Part.{Part}

-- the first of them is the highest
abbrev pub bits_in : Part → List Bool
bits_in p = bits_of p.count p.bits
