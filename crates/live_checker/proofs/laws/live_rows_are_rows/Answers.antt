-- Proved above.
use Rattle.live_checker.proofs.SameRows.{same_rows}
use Rattle.live_checker.proofs.laws.live_rows_are_rows.Goals as goal

pub returns : goal.returns
returns c = same_rows
