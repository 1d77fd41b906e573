use Rattle.word_text.proofs.Trips.{words-again, lane-again}
use Rattle.word_text.proofs.laws.listing_undoes_assembling.Goals as goal

pub returns-clause-words : goal.returns-clause-words
returns-clause-words c = words-again

pub returns-clause-lane : goal.returns-clause-lane
returns-clause-lane c = lane-again
