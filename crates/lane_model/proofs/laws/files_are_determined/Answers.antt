-- Bits are cut into bytes in one way.
use Rattle.lane_model.proofs.FilesHold.{files_determined}
use Rattle.lane_model.proofs.laws.files_are_determined.Goals as goal

pub returns : goal.returns
returns c = files_determined
