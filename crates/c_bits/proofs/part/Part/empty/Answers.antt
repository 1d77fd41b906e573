-- No bit.
use Rattle.lk_base.proofs.Bits.{no_bits}
use Rattle.c_bits.proofs.part.Part.empty.Goals as goal

pub returns : goal.returns
returns c = no_bits 0
