-- The highest bits of the first eight bytes.
use Rattle.rx_front.proofs.Gathering.{below_of_eight, first_of_eight}
use Rattle.rx_front.proofs.fed_lane.bits_ahead.Goals as goal

pub returns-clause-bits : goal.returns-clause-bits
returns-clause-bits c = first_of_eight c.as_slices.result.0.now c.as_slices.result.1.now c.args.ring.now.items c.eight_at.result c.args.count c.if-front-lt8.false c.requires.most c.as_slices.ensures c.eight_at.ensures

pub returns-clause-below : goal.returns-clause-below
returns-clause-below c = below_of_eight c.eight_at.result c.args.count c.eight_at.type_inv c.requires.most
