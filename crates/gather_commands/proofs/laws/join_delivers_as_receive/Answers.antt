use Rattle.gather_commands.proofs.JoinGathered.{join_delivers_as_receive}
use Rattle.gather_commands.proofs.laws.join_delivers_as_receive.Goals as goal

pub returns : goal.returns
returns c = join_delivers_as_receive
