use Rattle.std.proofs.Common.{rules}
use Rattle.run_shell.proofs.ending.say.Goals as goal

pub returns : goal.returns
returns g c = search rules
