-- Proved above.
use Rattle.rule_laws.proofs.AllKept.{the_law_on_rules}
use Rattle.rule_laws.proofs.laws.rules_law.Goals as goal

pub returns : goal.returns
returns c = the_law_on_rules
