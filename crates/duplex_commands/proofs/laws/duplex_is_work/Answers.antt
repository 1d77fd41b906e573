use Rattle.duplex_commands.proofs.Works.{duplex_is_work}
use Rattle.duplex_commands.proofs.laws.duplex_is_work.Goals as goal

pub returns : goal.returns
returns c = duplex_is_work
