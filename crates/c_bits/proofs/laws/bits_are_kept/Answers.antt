-- The law on pieces.
use Rattle.c_bits.proofs.Pieces.{bits_are_kept}
use Rattle.c_bits.proofs.laws.bits_are_kept.Goals as goal

pub returns : goal.returns
returns c = bits_are_kept
