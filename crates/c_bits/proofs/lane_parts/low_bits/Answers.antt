-- The lowest bits.
use Rattle.std.proofs.Common.{arith}
use Rattle.c_bits.proofs.Numbers.{masked}
use Rattle.c_bits.proofs.lane_parts.low_bits.Goals as goal

pub returns : goal.returns
returns c = let most = c.requires in masked c.args.number c.args.count (omega (arith, most))
