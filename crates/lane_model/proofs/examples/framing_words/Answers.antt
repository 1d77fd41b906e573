-- They compute.
use Rattle.lane_model.proofs.ExamplesHold.{framing}
use Rattle.lane_model.proofs.examples.framing_words.Goals as goal

pub returns : goal.returns
returns c = framing
