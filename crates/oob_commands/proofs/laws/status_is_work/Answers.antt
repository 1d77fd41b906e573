use Rattle.oob_commands.proofs.Works.{write_work, read_work}
use Rattle.oob_commands.proofs.laws.status_is_work.Goals as goal

pub returns-clause-writes : goal.returns-clause-writes
returns-clause-writes c = write_work

pub returns-clause-reads : goal.returns-clause-reads
returns-clause-reads c = read_work
