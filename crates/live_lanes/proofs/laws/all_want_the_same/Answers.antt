use Rattle.live_lanes.proofs.Places.{all_want_the_same as holds}
use Rattle.live_lanes.proofs.laws.all_want_the_same.Goals as goal

pub returns : goal.returns
returns c = holds
