-- Proved above.
use Rattle.live_checker.proofs.SameRows.{rows_are_in_order}
use Rattle.live_checker.proofs.laws.live_rows_are_in_order.Goals as goal

pub returns : goal.returns
returns c = rows_are_in_order
