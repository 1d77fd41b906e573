use Rattle.std.proofs.Common.{rules}
use Rattle.csv_rows.proofs.row_item.lone_number.Goals as goal

pub returns : goal.returns
returns c = search rules
