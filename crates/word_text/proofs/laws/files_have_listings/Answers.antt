use Rattle.word_text.proofs.Trips.{accepted}
use Rattle.word_text.proofs.HasListing.{words-listing, lane-has-listing}
use Rattle.word_text.proofs.laws.files_have_listings.Goals as goal

pub returns-clause-words : goal.returns-clause-words
returns-clause-words c = words-listing

pub returns-clause-accepted : goal.returns-clause-accepted
returns-clause-accepted c = accepted

pub returns-clause-lane : goal.returns-clause-lane
returns-clause-lane c = lane-has-listing
