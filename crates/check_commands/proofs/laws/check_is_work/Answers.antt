use Rattle.check_commands.proofs.Checks.{is_work}
use Rattle.check_commands.proofs.laws.check_is_work.Goals as goal

pub returns : goal.returns
returns c = is_work
