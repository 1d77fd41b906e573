-- The lowest bits.
use Rattle.c_bits.proofs.Numbers.{low_eight}
use Rattle.c_bits.proofs.part.Part.low.Goals as goal

pub returns-clause-bits : goal.returns-clause-bits
returns-clause-bits c = low_eight c.args.count c.args.number c.requires
