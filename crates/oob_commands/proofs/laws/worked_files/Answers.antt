use Rattle.oob_commands.proofs.Worked.{worked}
use Rattle.oob_commands.proofs.laws.worked_files.Goals as goal

pub returns : goal.returns
returns c = worked
