use Rattle.oob_commands.proofs.FlowRead.{accepted}
use Rattle.oob_commands.proofs.FlowLength.{short}
use Rattle.oob_commands.proofs.laws.flow_files_are_accepted.Goals as goal

pub returns-clause-accepted : goal.returns-clause-accepted
returns-clause-accepted c = accepted

pub returns-clause-short : goal.returns-clause-short
returns-clause-short c = short
