use Rattle.oob_commands.proofs.StatusBack.{written_back, flow_is_accepted}
use Rattle.oob_commands.proofs.laws.status_is_read_back.Goals as goal

pub returns-clause-written : goal.returns-clause-written
returns-clause-written c = written_back

pub returns-clause-accepted : goal.returns-clause-accepted
returns-clause-accepted c = flow_is_accepted
