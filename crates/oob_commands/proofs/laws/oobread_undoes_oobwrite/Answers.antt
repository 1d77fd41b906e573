use Rattle.oob_commands.proofs.Undone.{undoes, refuses}
use Rattle.oob_commands.proofs.laws.oobread_undoes_oobwrite.Goals as goal

pub returns-clause-undoes : goal.returns-clause-undoes
returns-clause-undoes c = undoes

pub returns-clause-refuses : goal.returns-clause-refuses
returns-clause-refuses c = refuses
