-- Proved above.
use Rattle.gathered_laws.proofs.Warmup.{the_law_on_warmup, the_law_on_the_fourth_group}
use Rattle.gathered_laws.proofs.laws.warmup_law.Goals as goal

pub returns-clause-places : goal.returns-clause-places
returns-clause-places c = the_law_on_warmup

pub returns-clause-groups : goal.returns-clause-groups
returns-clause-groups c = the_law_on_the_fourth_group
