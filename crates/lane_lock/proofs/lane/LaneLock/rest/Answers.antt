-- A word lock that goes on shifts all bits at once.
use Rattle.std.proofs.Common.{sym, ap, subst, ◌∙◌, replicate}
use Rattle.lk_base.specs.Checksum.{bits_of}
use Rattle.lock_model.specs.declared.types.LaneStep.TheVariants as steps
use Rattle.lane_lock.specs.Bytes.{Brings}
use Rattle.lane_lock.specs.Lane.{LaneView}
use Rattle.lane_lock.proofs.Resting.{all_at_once}
use Rattle.lane_lock.proofs.lane.LaneLock.rest.Goals as goal

pub returns-then-self-clause-stands : goal.returns-then-self-clause-stands
returns-then-self-clause-stands c =
    let ew = sym (ap (λ (x : LaneView). x.watching) c.self.view_is) ∙ c.if-self.true in
    subst (λ (w : LaneView). Brings c.args.self.now w (bits_of c.args.count c.args.bits) (replicate c.args.count steps.Nothing)) (sym c.shift.ensures.value)
    (all_at_once c.args.self.now c.args.count c.args.bits ew (c.requires.rests ew) c.requires.bits)
