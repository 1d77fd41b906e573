-- A bit more.
use Rattle.std.proofs.Common.{ℕ, ◌≡◌, ◌∙◌, ◌-◌, ap, map, get_or, List, Option, refl, sym, subst, ◌≤◌, ◌++◌, ◌∷◌, [], true, arith}
use Rattle.std.specs.List.{cons_option}
use Rattle.std.proofs.lemmas.List.{length-map}
use Rattle.lock_model.specs.declared.types.LaneStep.TheVariants as steps
use Rattle.deskew.specs.States as deskew
use Rattle.deskew.specs.Stands as deskews
use Rattle.deskew.specs.Steps.{ticked as behind}
use Rattle.deskew.proofs.Running.{running_begins, running_ends}
use Rattle.deskew.proofs.Ticking.{ticked_stands}
use Rattle.rx_front.specs.States.{Lane, State}
use Rattle.rx_front.specs.Lanes.{step_at}
use Rattle.rx_front.specs.Locks.{declared_in, lock_of}
use Rattle.rx_front.specs.Standing.{Stands}
use Rattle.rx_front.proofs.Locks.{lock_there, moves_as}
use Rattle.rx_front.proofs.Ticking.{ticked}
use Rattle.rx_front.proofs.front.Front.tick.Goals as goal

pub returns-clause-moves : goal.returns-clause-moves
returns-clause-moves c = λ s fed items t st.
    let i = c.self.inside in
    let lanes = i.lanes.items in
    let k = i.width - i.left in
    let row = map (step_at k) lanes in
    let some = subst (λ (v : State). 1 ≤ v.left) (sym c.self.view_is) c.requires.left in
    let most = c.self.invariant.3 in
    let settled = subst (λ (v : State). v.deskew.settled ≡ true) (sym c.self.view_is) c.requires.settled in
    let shown = c.show_steps.ensures ∙ ap (λ (vs : List Lane). behind i.deskew (map (step_at k) vs)) c.deref.ensures.value in
    let place : i.width - (i.left - 1) - 1 ≡ k = omega (arith, some, most) in
    moves_as _ s fed items t (λ lane. cons_option (lock_of (get_or row lane steps.Ended)) []) (λ lane. cons_option (declared_in lane (i.left - 1) lanes) [])
    (λ lane. ap (λ (o : Option ℕ). cons_option o []) (sym (lock_there lane (i.left - 1) i.width lanes (omega (arith, some, most)) c.self.invariant.5
    ∙ ap (λ (j : ℕ). lock_of (get_or (map (step_at j) lanes) lane steps.Ended)) place)))
    (ticked i.width _ _ row s fed items t some most c.self.invariant.5 refl refl
    (λ s' ticks given are before. subst (λ (d : deskew.State). deskews.StandsAhead d s' (ticks ++ row ∷ []) given) (sym shown)
    (running_begins (behind i.deskew row) s' (ticks ++ row ∷ []) given
    (ticked_stands i.deskew s' ticks given row (length-map lanes (step_at k) ∙ c.self.invariant.0) settled are
    (running_ends i.deskew s' ticks given settled before).1)))
    (subst (λ (v : State). Stands v s fed items t) (sym c.self.view_is) st))
