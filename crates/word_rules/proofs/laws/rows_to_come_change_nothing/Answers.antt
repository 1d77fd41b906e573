-- Proved above.
use Rattle.word_rules.proofs.LaterRows.{later_row}
use Rattle.word_rules.proofs.laws.rows_to_come_change_nothing.Goals as goal

pub returns : goal.returns
returns c = later_row
