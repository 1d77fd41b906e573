-- The words that were made so far are the first.
use Rattle.tx_words.specs.Streaming.{GivesFirstWords}
use Rattle.tx_words.proofs.Making.{first_made}

pub gives_first_words : GivesFirstWords
gives_first_words s source words w k stream = first_made s.maker source words w k.gave stream
