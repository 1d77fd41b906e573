use Rattle.live_lanes.proofs.Taken.{are_whole_bytes as holds}
use Rattle.live_lanes.proofs.laws.are_whole_bytes.Goals as goal

pub returns : goal.returns
returns c = holds
