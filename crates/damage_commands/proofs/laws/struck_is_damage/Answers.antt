use Rattle.damage_commands.proofs.NoneStruck.{arrives_as_sent, none_struck}
use Rattle.damage_commands.proofs.laws.struck_is_damage.Goals as goal

pub returns-clause-bits : goal.returns-clause-bits
returns-clause-bits c = none_struck

pub returns-clause-files : goal.returns-clause-files
returns-clause-files c = arrives_as_sent
