-- The parts of a code are read back.
use Rattle.lane_model.proofs.Codes.{codes_mean}
use Rattle.lane_model.proofs.laws.codes_mean_their_words.Goals as goal

pub returns : goal.returns
returns c = codes_mean
