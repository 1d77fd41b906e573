use Rattle.damage_commands.proofs.Damages.{is_work}
use Rattle.damage_commands.proofs.laws.damage_is_work.Goals as goal

pub returns : goal.returns
returns c = is_work
