-- A transmitter in a box.
use Rattle.std.proofs.Common.{sym, subst}
use Rattle.c_transmitter.specs.Held.{IsSenderOfPlan}
use Rattle.c_transmitter.proofs.calls.boxed.Goals as goal

pub returns-clause-made : goal.returns-clause-made
returns-clause-made c = (subst (IsSenderOfPlan c.args.plan.now) (sym c.in_ok-held.ensures.end) c.in_ok-transmitter.ensures.made, c.in_ok-held.ensures.whole)
