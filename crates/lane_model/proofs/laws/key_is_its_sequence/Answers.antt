-- The key is its sequence.
use Rattle.lane_model.proofs.KeyHolds.{key_holds}
use Rattle.lane_model.proofs.laws.key_is_its_sequence.Goals as goal

pub returns : goal.returns
returns c = key_holds
