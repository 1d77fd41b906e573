-- The lane at its place.
use Rattle.rx_front.proofs.Places.{finished_is, open_below}
use Rattle.rx_front.proofs.lanes.finish_at.Goals as goal

pub bounds-lanes-lane : goal.bounds-lanes-lane
bounds-lanes-lane c = open_below c.args.lane c.args.lanes.now c.requires

pub returns : goal.returns
returns c = finished_is c.args.lane c.args.lanes.now c.index-lanes-lane.result c.finish.new.self (open_below c.args.lane c.args.lanes.now c.requires) c.finish.ensures
