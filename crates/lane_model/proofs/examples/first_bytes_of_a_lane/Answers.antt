-- They compute.
use Rattle.lane_model.proofs.ExamplesHold.{first_bytes}
use Rattle.lane_model.proofs.examples.first_bytes_of_a_lane.Goals as goal

pub returns : goal.returns
returns c = first_bytes
