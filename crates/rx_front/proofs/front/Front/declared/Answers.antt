-- The step of the bit that was passed last.
use Rattle.std.proofs.Common.{◌-◌, ◌<◌, ◌∙◌, sym, ap, subst, length}
use Rattle.lock_model.specs.declared.types.LaneStep.TheVariants as steps
use Rattle.rx_front.specs.Lanes.{step_at}
use Rattle.rx_front.specs.Locks.{declared_at, lock_of}
use Rattle.rx_front.specs.States.{State}
use Rattle.rx_front.proofs.Locks.{lock_past, lock_there, step_there}
use Rattle.rx_front.proofs.front.Front.declared.Goals as goal

pub returns-then-self-clause-value : goal.returns-then-self-clause-value
returns-then-self-clause-value c =
    let i = c.self.inside in
    sym (lock_past c.args.lane i.left i.width i.lanes.items c.if-self.true c.self.invariant.5) ∙ ap (declared_at c.args.lane) c.self.view_is

pub returns-clause-value : goal.returns-clause-value
returns-clause-value c =
    let i = c.self.inside in
    let lt = c.if-self.false in
    let k = i.width - i.left - 1 in
    let there = c.step.ensures.value ∙ ap (step_at k) c.index.ensures ∙ step_there k c.args.lane i.lanes.items c.index.result.now steps.Ended (subst (λ (v : State). c.args.lane < length v.lanes) (sym c.self.view_is) c.requires) in
    c.lock_of.ensures.value ∙ ap lock_of there ∙ sym (lock_there c.args.lane i.left i.width i.lanes.items lt c.self.invariant.5) ∙ ap (declared_at c.args.lane) c.self.view_is
