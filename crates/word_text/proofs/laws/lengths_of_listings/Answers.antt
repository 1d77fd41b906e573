use Rattle.word_text.proofs.Lengths.{words-length, lane-length}
use Rattle.word_text.proofs.laws.lengths_of_listings.Goals as goal

pub returns-clause-words : goal.returns-clause-words
returns-clause-words c = words-length

pub returns-clause-lane : goal.returns-clause-lane
returns-clause-lane c = lane-length
