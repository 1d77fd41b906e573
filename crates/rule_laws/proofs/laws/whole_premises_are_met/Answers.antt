-- Proved above.
use Rattle.rule_laws.proofs.PremisesHold.{whole_premises_met}
use Rattle.rule_laws.proofs.laws.whole_premises_are_met.Goals as goal

pub returns : goal.returns
returns c = whole_premises_met c.pieces_are_shown.ensures
