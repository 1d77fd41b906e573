-- The high bits of eight bytes.
use Rattle.std.proofs.Common.{arith}
use Rattle.lane_events.proofs.Pieces.{first_low}
use Rattle.lane_events.proofs.windows.first_of.Goals as goal

pub returns-clause-below : goal.returns-clause-below
returns-clause-below c = (let most = c.requires.most in first_low c.args.count c.args.bits (omega (arith, most)) c.ranges.bits.fits)
