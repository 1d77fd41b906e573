-- Proved above.
use Rattle.gathered_laws.proofs.Later.{the_law_on_later_words}
use Rattle.gathered_laws.proofs.laws.later_words_law.Goals as goal

pub returns : goal.returns
returns c = the_law_on_later_words
