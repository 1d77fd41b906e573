use Rattle.check_commands.proofs.AfterBurst as laws
use Rattle.check_commands.proofs.laws.check_after_burst.Goals as goal

pub returns : goal.returns
returns c = laws.check_after_burst
