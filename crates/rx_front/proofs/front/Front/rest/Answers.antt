-- Bits that show nothing.
use Rattle.std.proofs.Common.{◌≡◌, ◌≤◌, sym, subst, true, arith}
use Rattle.rx_front.specs.States.{State}
use Rattle.rx_front.specs.Standing.{Stands}
use Rattle.rx_front.proofs.Covering.{quiet_at}
use Rattle.rx_front.proofs.Resting.{none_at_last, quiet_bits}
use Rattle.rx_front.proofs.Seen.{seen}
use Rattle.rx_front.proofs.front.Front.rest.Goals as goal

pub returns-clause-moves : goal.returns-clause-moves
returns-clause-moves c = λ s fed items t st.
    let i = c.self.inside in
    let n = c.zeros_from-quiet.result in
    let m = c.zeros_from-quiet.ensures.most in
    let b = c.self.invariant.3 in
    quiet_bits i.width n (seen i) s fed items t (omega (arith, m, b)) b c.self.invariant.5 c.self.invariant.0
    (λ j low high. quiet_at i.shows i.width j i.lanes.items c.self.invariant.5 c.self.invariant.6 (omega (arith, high, m)) (c.zeros_from-quiet.ensures.zeros j low high))
    (subst (λ (v : State). v.deskew.settled ≡ true) (sym c.self.view_is) c.requires.settled)
    (subst (λ (v : State). Stands v s fed items t) (sym c.self.view_is) st)

pub returns-clause-none : goal.returns-clause-none
returns-clause-none c = λ none lane.
    let i = c.self.inside in
    let n = c.zeros_from-quiet.result in
    let m = c.zeros_from-quiet.ensures.most in
    let b = c.self.invariant.3 in
    none_at_last lane i.width i.left n i.lanes.items none (subst (λ (v : State). 1 ≤ v.left) (sym c.self.view_is) c.requires.left) b (omega (arith, m, b)) c.self.invariant.5
    (λ j low high. quiet_at i.shows i.width j i.lanes.items c.self.invariant.5 c.self.invariant.6 (omega (arith, high, m)) (c.zeros_from-quiet.ensures.zeros j low high))
