-- The law.
use Rattle.deskew.proofs.Rows.{row_is_next}
use Rattle.deskew.proofs.laws.rows_are_next.Goals as goal

pub returns : goal.returns
returns c = row_is_next
