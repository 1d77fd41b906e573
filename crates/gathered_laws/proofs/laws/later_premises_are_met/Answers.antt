-- Proved above.
use Rattle.gathered_laws.proofs.PremisesHold.{later_premises_met}
use Rattle.gathered_laws.proofs.laws.later_premises_are_met.Goals as goal

pub returns : goal.returns
returns c = later_premises_met
