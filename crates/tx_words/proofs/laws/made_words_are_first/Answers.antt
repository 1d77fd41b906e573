use Rattle.tx_words.proofs.FirstWords.{gives_first_words}
use Rattle.tx_words.proofs.laws.made_words_are_first.Goals as goal

pub returns : goal.returns
returns c = gives_first_words
