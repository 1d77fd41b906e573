-- Proved above.
use Rattle.resend_commands.proofs.PremisesHold.{resent_meets}
use Rattle.resend_commands.proofs.laws.premises_are_met.Goals as goal

pub returns : goal.returns
returns c = resent_meets
