-- Rounds, bits that show nothing, and a bit more.
use Rattle.std.proofs.Common.{ℕ, ◌≡◌, sym, ap, subst, [], Option, arith}
use Rattle.std.specs.List.{cons_option}
use Rattle.rx_front.specs.States.{State}
use Rattle.rx_front.specs.Standing.{MovesQuietly}
use Rattle.rx_front.proofs.Locks.{moves_as, moves_none, moves_then}
use Rattle.rx_front.proofs.front.Front.advance.Goals.{else-self-eq0-via-then-self-eq0+else-not-round, else-self-eq0-via-else-self-eq0}
use Rattle.rx_front.proofs.front.Front.advance.Goals as goal

pub returns-then-self-gt0-clause-moves : goal.returns-then-self-gt0-clause-moves
returns-then-self-gt0-clause-moves c = λ s fed items t st.
    let begins : MovesQuietly c.else-self-eq0.self s fed items t = elim c.else-self-eq0.branch [
      | else-self-eq0-via-then-self-eq0+else-not-round w ↦ subst (λ (v : State). MovesQuietly v s fed items t) (sym w.self-is) (w.if-not-round.ensures.moves s fed items t st)
      | else-self-eq0-via-else-self-eq0 w ↦ subst (λ (v : State). MovesQuietly v s fed items t) (sym w.self-is) (moves_none _ s fed items t st)
    ] in
    moves_then _ _ s fed items t _ begins (λ u here. moves_then _ _ s fed items u _ (c.rest.ensures.moves s fed items u here) (λ x later. c.tick.ensures.moves s fed items x later))

pub returns-else-self-gt0-clause-moves : goal.returns-else-self-gt0-clause-moves
returns-else-self-gt0-clause-moves c = λ s fed items t st.
    let begins : MovesQuietly c.else-self-eq0.self s fed items t = elim c.else-self-eq0.branch [
      | else-self-eq0-via-then-self-eq0+else-not-round w ↦ subst (λ (v : State). MovesQuietly v s fed items t) (sym w.self-is) (w.if-not-round.ensures.moves s fed items t st)
      | else-self-eq0-via-else-self-eq0 w ↦ subst (λ (v : State). MovesQuietly v s fed items t) (sym w.self-is) (moves_none _ s fed items t st)
    ] in
    let none = subst (λ (v : State). ◌≡◌ {A = ℕ} v.left 0) c.self-2.view_is (let f = c.if-self-gt0.false in omega (arith, f)) in
    moves_then _ _ s fed items t _ begins
    (λ u here. moves_as _ s fed items u (λ i. []) _ (λ i. sym (ap (λ (o : Option ℕ). cons_option o []) (c.rest.ensures.none none i))) (c.rest.ensures.moves s fed items u here))
