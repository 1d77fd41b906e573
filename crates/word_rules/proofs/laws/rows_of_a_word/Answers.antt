-- Proved above.
use Rattle.word_rules.proofs.RowOrder.{rows_of}
use Rattle.word_rules.proofs.laws.rows_of_a_word.Goals as goal

pub returns : goal.returns
returns c = rows_of
