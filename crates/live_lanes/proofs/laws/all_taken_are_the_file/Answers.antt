use Rattle.live_lanes.proofs.Taken.{all_taken as holds}
use Rattle.live_lanes.proofs.laws.all_taken_are_the_file.Goals as goal

pub returns : goal.returns
returns c = holds
