use Rattle.tx_words.proofs.Kept.{is_source}
use Rattle.tx_words.proofs.laws.arguments_are_source.Goals as goal

pub returns : goal.returns
returns c = is_source
