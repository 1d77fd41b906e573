-- Proved above.
use Rattle.duplex_commands.proofs.PremisesHold.{two_ends_meet}
use Rattle.duplex_commands.proofs.laws.premises_are_met.Goals as goal

pub returns : goal.returns
returns c = two_ends_meet
