-- How far the search is after the bits so far.
use Rattle.std.proofs.Common.{◌≡◌, ap, sym, subst, ◌∙◌, Bool, true, false}
use Rattle.std.specs.Prelude.{if◌then◌else◌}
use Rattle.lock_model.specs.declared.types.LaneState.TheVariants as states
use Rattle.lane_lock.specs.Lane.{LaneView}
use Rattle.lane_lock.specs.Standing.{IsState}
use Rattle.lane_lock.proofs.LastWord.{held, hunted}
use Rattle.lane_lock.proofs.States.{state_held, state_hunting}
use Rattle.lane_lock.proofs.lane.LaneLock.state.Goals as goal

pub returns-then-not-self : goal.returns-then-not-self
returns-then-not-self c s bits k =
    let ew = sym (ap (λ (x : LaneView). x.watching) c.self.view_is) ∙ c.if-not-self.true in
    state_hunting c.args.self.now s bits k (hunted c.args.self.now s bits k ew)

pub returns-then-declared : goal.returns-then-declared
returns-then-declared c s bits k =
    let ew = sym (ap (λ (x : LaneView). x.watching) c.self.view_is) ∙ c.if-not-self.false in
    let d : c.args.self.now.watch.declared ≡ true = sym (ap (λ (x : LaneView). x.watch.declared) c.self.view_is) ∙ sym c.declared.ensures ∙ c.if-declared.true in
    subst (λ (x : Bool). IsState s bits (if x then states.Declared else states.WordLock)) d (state_held c.args.self.now s bits k (held c.args.self.now s bits k ew))

pub returns-else-declared : goal.returns-else-declared
returns-else-declared c s bits k =
    let ew = sym (ap (λ (x : LaneView). x.watching) c.self.view_is) ∙ c.if-not-self.false in
    let d : c.args.self.now.watch.declared ≡ false = sym (ap (λ (x : LaneView). x.watch.declared) c.self.view_is) ∙ sym c.declared.ensures ∙ c.if-declared.false in
    subst (λ (x : Bool). IsState s bits (if x then states.Declared else states.WordLock)) d (state_held c.args.self.now s bits k (held c.args.self.now s bits k ew))
