-- A gatherer in a box.
use Rattle.std.proofs.Common.{sym, subst}
use Rattle.c_gatherer.specs.Held.{IsOfPlan}
use Rattle.c_gatherer.proofs.calls.boxed.Goals as goal

pub returns-clause-made : goal.returns-clause-made
returns-clause-made c = (subst (IsOfPlan c.args.plan.now) (sym c.in_ok-held.ensures.lanes) c.in_ok-gatherer.ensures.made, c.in_ok-held.ensures.whole)
