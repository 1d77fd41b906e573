-- The step of a bit among those that show nothing.
use Rattle.std.proofs.Common.{◌≡◌, sym, subst, get_or}
use Rattle.lock_model.specs.declared.types.LaneStep.TheVariants as steps
use Rattle.rx_front.specs.declared.shown.Shown.{Shown}
use Rattle.rx_front.specs.Shows.{IsWithin, steps_shown}
use Rattle.rx_front.proofs.Shows.{step_there}
use Rattle.rx_front.proofs.shown.Shown.step.Goals as goal

pub returns-in-Step-clause-value : goal.returns-in-Step-clause-value
returns-in-Step-clause-value c =
    let within = subst (IsWithin c.args.width) c.in-Step.is c.requires in
    subst (λ (f : Shown). c.step_if-in-Step.result ≡ get_or (steps_shown c.args.width f) c.args.k steps.Ended) (sym c.in-Step.is)
    (step_there c.in-Step.place c.args.width c.args.k c.in-Step.step c.step_if-in-Step.result within.0 c.step_if-in-Step.ensures.here c.step_if-in-Step.ensures.elsewhere c.step_if-in-Step.ensures.behind)
