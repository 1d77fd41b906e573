use Rattle.burst_scheduler.proofs.Calls.{has_words}
use Rattle.tx_words.proofs.Making.{first_made}
use Rattle.tx_words.proofs.word_maker.WordMaker.slots.Goals as goal

pub slot-requires : goal.slot-requires
slot-requires c = let (source, words, k) = c.requires in record { words = (_, has_words k.drives.gives) }

pub returns-clause-count : goal.returns-clause-count
returns-clause-count c source words k = c.slot.ensures.count _ (has_words k.drives.gives)

pub returns-clause-prefix : goal.returns-clause-prefix
returns-clause-prefix c source words w k stream = first_made c.args.self.now source words w k stream
