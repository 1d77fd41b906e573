use Rattle.duplex_commands.proofs.HeldBack.{held_back}
use Rattle.duplex_commands.proofs.laws.ends_hold_back.Goals as goal

pub returns : goal.returns
returns c = held_back
