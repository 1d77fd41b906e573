use Rattle.std.proofs.Common.{rules}
use Rattle.csv_rows.proofs.judging.fault_for.Goals as goal

pub returns-then-has_numbered : goal.returns-then-has_numbered
returns-then-has_numbered g c = search rules

pub returns-else-has_numbered : goal.returns-else-has_numbered
returns-else-has_numbered g c = search rules
