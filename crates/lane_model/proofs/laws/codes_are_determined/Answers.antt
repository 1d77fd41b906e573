-- Each code in turn.
use Rattle.lane_model.proofs.CodesOfWords.{codes_determined}
use Rattle.lane_model.proofs.laws.codes_are_determined.Goals as goal

pub returns : goal.returns
returns c = codes_determined
