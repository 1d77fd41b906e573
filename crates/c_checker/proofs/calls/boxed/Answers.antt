-- A checker in a box.
use Rattle.std.proofs.Common.{sym, subst}
use Rattle.c_checker.specs.Held.{IsCheckerOfPlan}
use Rattle.c_checker.proofs.calls.boxed.Goals as goal

pub returns-clause-made : goal.returns-clause-made
returns-clause-made c = subst (IsCheckerOfPlan c.args.plan.now) (sym c.in_ok-held.ensures) c.in_ok-checker.ensures.made
