use Rattle.tx_words.proofs.SentExamplesHold.{counts_hold, sent_hold}
use Rattle.tx_words.proofs.laws.small_streams.Goals as goal

pub returns-clause-counts : goal.returns-clause-counts
returns-clause-counts c = counts_hold

pub returns-clause-sent : goal.returns-clause-sent
returns-clause-sent c = sent_hold
