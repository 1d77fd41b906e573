use Rattle.lane_words.proofs.Examples.{worked_words}
use Rattle.lane_words.proofs.laws.worked_examples.Goals as goal

pub returns : goal.returns
returns c = worked_words
