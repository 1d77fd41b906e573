use Rattle.lane_words.proofs.Clean.{clean_lanes_give_stream}
use Rattle.lane_words.proofs.Epochs.{words_are_of_epochs}
use Rattle.lane_words.proofs.laws.words_are_of_epochs.Goals as goal

pub returns : goal.returns
returns c = record { epochs = words_are_of_epochs; clean = clean_lanes_give_stream }
