-- Proved above.
use Rattle.rule_laws.proofs.PremisesHold.{rules_premises_met}
use Rattle.rule_laws.proofs.laws.premises_are_met.Goals as goal

pub returns : goal.returns
returns c = rules_premises_met
