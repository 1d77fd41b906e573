-- A bit that ends no word.
use Rattle.std.proofs.Common.{◌≡◌, ◌+◌, sym, ap, subst, ◌∙◌, arith, [], ◌∷◌, ◌++◌}
use Rattle.lock_model.specs.declared.types.LaneStep.TheVariants as steps
use Rattle.lane_lock.specs.Lane.{LaneView}
use Rattle.lane_lock.specs.Standing.{IsStep, Stands}
use Rattle.lane_lock.proofs.Lanes.{holding_short, hunting_short}
use Rattle.lane_lock.proofs.LastWord.{held, hunted}
use Rattle.lane_lock.proofs.lane.LaneLock.idle.Goals.{else-not-self-via-then-not-self+else-self, else-not-self-via-else-not-self}
use Rattle.lane_lock.proofs.lane.LaneLock.idle.Goals as goal

pub returns-then-self-clause-stands : goal.returns-then-self-clause-stands
returns-then-self-clause-stands c s bits k =
    let e = c.self.view_is ∙ c.take.ensures.value in
    let taken : c.self.inside.taken ≡ c.args.self.now.taken + 1 = ap (λ (x : LaneView). x.taken) e in
    let from : c.self.inside.from ≡ c.args.self.now.from = ap (λ (x : LaneView). x.from) e in
    let ew = sym (ap (λ (x : LaneView). x.watching) e) ∙ c.if-not-self.true in
    c.search.ensures.stands c.args.self.now s bits c.args.b k c.take.ensures.value ew (omega (arith, c.if-self.true))

pub returns-else-not-self-clause-stands : goal.returns-else-not-self-clause-stands
returns-else-not-self-clause-stands c s bits k =
    let e = c.self.view_is ∙ c.take.ensures.value in
    let taken : c.self.inside.taken ≡ c.args.self.now.taken + 1 = ap (λ (x : LaneView). x.taken) e in
    let from : c.self.inside.from ≡ c.args.self.now.from = ap (λ (x : LaneView). x.from) e in
    subst (λ (x : LaneView). Stands x s (bits ++ c.args.b ∷ []) × IsStep s (bits ++ c.args.b ∷ []) steps.Nothing) (sym c.take.ensures.value)
    (elim c.else-not-self.branch [
      | else-not-self-via-then-not-self+else-self w ↦ (
          let ew = sym (ap (λ (x : LaneView). x.watching) e) ∙ w.if-not-self.true in
          hunting_short c.args.self.now s bits c.args.b k (hunted c.args.self.now s bits k ew) ew (omega (arith, w.if-self.false)))
      | else-not-self-via-else-not-self w ↦ (
          let ew = sym (ap (λ (x : LaneView). x.watching) e) ∙ w.if-not-self.false in
          holding_short c.args.self.now s bits c.args.b k (held c.args.self.now s bits k ew) ew (c.requires.rests ew))
    ])
