use Rattle.gather_commands.proofs.Examples.{worked_tables}
use Rattle.gather_commands.proofs.laws.worked_examples.Goals as goal

pub returns : goal.returns
returns c = worked_tables
