use Rattle.lane_words.proofs.PlaceRows.{rows_are_of_epochs}
use Rattle.lane_words.proofs.laws.rows_are_of_epochs.Goals as goal

pub returns : goal.returns
returns c = rows_are_of_epochs
