-- They compute.
use Rattle.lane_model.proofs.ExamplesHold.{damaged}
use Rattle.lane_model.proofs.examples.damaged_bits.Goals as goal

pub returns : goal.returns
returns c = damaged
