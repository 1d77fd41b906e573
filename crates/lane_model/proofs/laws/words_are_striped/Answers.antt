-- A lane's share ends where the stream does.
use Rattle.lane_model.proofs.StripingHolds.{striping_holds}
use Rattle.lane_model.proofs.laws.words_are_striped.Goals as goal

pub returns : goal.returns
returns c = striping_holds
