use Rattle.interlaken.proofs.LinkWords.{asks_or_not, only_these}
use Rattle.interlaken.proofs.laws.link_words.Goals as goal

pub returns : goal.returns
returns c = record { only = only_these; these = asks_or_not }
