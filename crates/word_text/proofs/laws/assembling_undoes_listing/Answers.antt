use Rattle.word_text.proofs.Trips.{words-back, lane-back}
use Rattle.word_text.proofs.laws.assembling_undoes_listing.Goals as goal

pub returns-clause-words : goal.returns-clause-words
returns-clause-words c = words-back

pub returns-clause-lane : goal.returns-clause-lane
returns-clause-lane c = lane-back
