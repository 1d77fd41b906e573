-- This many bits are below their power of 2.
use Rattle.lane_lock.proofs.Cutting.{first_below}
use Rattle.lane_lock.proofs.words.first_bits.Goals as goal

pub returns-clause-below : goal.returns-clause-below
returns-clause-below c = first_below c.args.bits c.args.width c.args.count c.requires.bits c.requires.count
