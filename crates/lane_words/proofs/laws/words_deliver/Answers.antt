use Rattle.lane_words.proofs.GivenBack.{lanes_are_given_back}
use Rattle.lane_words.proofs.Joined.{joined_delivers}
use Rattle.lane_words.proofs.laws.words_deliver.Goals as goal

pub returns : goal.returns
returns c = record { epochs = joined_delivers; lanes = lanes_are_given_back }
