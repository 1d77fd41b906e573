use Rattle.oob_flow.proofs.Going.{few_rows}
use Rattle.oob_flow.proofs.laws.rows_are_few.Goals as goal

pub returns : goal.returns
returns c = few_rows
