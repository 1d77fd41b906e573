use Rattle.check_commands.proofs.Examples.{worked_tables, worked_texts}
use Rattle.check_commands.proofs.laws.worked_examples.Goals as goal

pub returns-clause-tables : goal.returns-clause-tables
returns-clause-tables c = worked_tables

pub returns-clause-texts : goal.returns-clause-texts
returns-clause-texts c = worked_texts
