use Rattle.inspect_commands.proofs.Tables.{worked_tables}
use Rattle.inspect_commands.proofs.laws.worked_tables.Goals as goal

pub returns : goal.returns
returns c = worked_tables
