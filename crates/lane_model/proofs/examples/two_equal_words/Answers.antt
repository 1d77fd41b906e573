-- They compute.
use Rattle.lane_model.proofs.ExamplesHold.{two_equal}
use Rattle.lane_model.proofs.examples.two_equal_words.Goals as goal

pub returns : goal.returns
returns c = two_equal
