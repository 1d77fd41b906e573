-- Proved above.
use Rattle.word_rules.proofs.RowOrder.{rows_in_order}
use Rattle.word_rules.proofs.laws.rows_stand_in_order.Goals as goal

pub returns : goal.returns
returns c = rows_in_order
