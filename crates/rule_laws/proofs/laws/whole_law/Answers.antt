-- Proved above.
use Rattle.rule_laws.proofs.Unbroken.{the_law_on_stretches}
use Rattle.rule_laws.proofs.OuterSpans.{the_law_on_spans}
use Rattle.rule_laws.proofs.laws.whole_law.Goals as goal

pub returns-clause-stretches : goal.returns-clause-stretches
returns-clause-stretches c = the_law_on_stretches

pub returns-clause-spans : goal.returns-clause-spans
returns-clause-spans c = the_law_on_spans
