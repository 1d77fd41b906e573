use Rattle.live_lanes.proofs.Taken.{are_in_step as holds}
use Rattle.live_lanes.proofs.laws.are_in_step.Goals as goal

pub returns : goal.returns
returns c = holds
