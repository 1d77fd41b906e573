use Rattle.live_lanes.proofs.Taken.{taken_are_first as holds}
use Rattle.live_lanes.proofs.laws.taken_are_first.Goals as goal

pub returns : goal.returns
returns c = holds
