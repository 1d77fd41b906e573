-- A receiver in a box.
use Rattle.std.proofs.Common.{sym, subst}
use Rattle.live_receiver.specs.Opens.{IsOfPlan}
use Rattle.c_receiver.proofs.calls.boxed.Goals as goal

pub returns-clause-made : goal.returns-clause-made
returns-clause-made c = (subst (IsOfPlan c.args.plan.now) (sym c.in_ok-held.ensures.session) c.in_ok-session.ensures.made, c.in_ok-held.ensures.whole)
