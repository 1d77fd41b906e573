-- The lanes change, and nothing else.
use Rattle.std.proofs.Common.{◌≡◌, sym, ap, ◌∙◌, subst, ◌≤◌, true, List, length, arith}
use Rattle.rx_front.specs.Calls.{is_open, lanes_finished}
use Rattle.rx_front.specs.Lanes.{AreCovered, AreWide, Covers}
use Rattle.rx_front.specs.States.{Lane, State, with_lanes}
use Rattle.rx_front.specs.Standing.{Stands}
use Rattle.rx_front.proofs.Feeding.{finished_stands}
use Rattle.rx_front.proofs.Places.{written}
use Rattle.rx_front.proofs.Taking.{kept_finished}
use Rattle.rx_front.proofs.Seen.{seen}
use Rattle.rx_front.proofs.front.Front.finish.Goals as goal

pub returns-clause-stands : goal.returns-clause-stands
returns-clause-stands c = λ s fed items t st.
    let i = c.self.inside in
    let whole = written {A = Lane} i.lanes.len c.finish_at.new.lanes i.lanes.items (c.finish_at.auto.lanes ∙ c.deref_mut.ensures.len) in
    let same = whole ∙ c.finish_at.ensures ∙ ap (λ (vs : List Lane). lanes_finished c.args.lane vs) c.deref_mut.ensures.value in
    finished_stands (seen i) _ c.args.lane s fed items t (subst (λ (v : State). is_open c.args.lane v.lanes ≡ true) (sym c.self.view_is) c.requires)
    (ap (λ (vs : List Lane). with_lanes vs (seen i)) same) (subst (λ (v : State). Stands v s fed items t) (sym c.self.view_is) st)

pub invariant_of-self : goal.invariant_of-self
invariant_of-self c =
    let i = c.self.inside in
    let later = c.finish_at.new.lanes in
    let whole = written {A = Lane} i.lanes.len later i.lanes.items (c.finish_at.auto.lanes ∙ c.deref_mut.ensures.len) in
    let count : length later ≡ length i.lanes.items = c.finish_at.auto.lanes ∙ ap (λ (vs : List Lane). length vs) c.deref_mut.ensures.value in
    let wide : AreWide i.width later = subst (AreWide i.width) (sym c.finish_at.ensures) (kept_finished (λ v. length v.steps ≡ i.width) c.args.lane c.deref_mut.result.now (λ v h. h) (subst (AreWide i.width) (sym c.deref_mut.ensures.value) c.self.invariant.5)) in
    let covered : AreCovered i.shows later = subst (AreCovered i.shows) (sym c.finish_at.ensures) (kept_finished (Covers i.shows) c.args.lane c.deref_mut.result.now (λ v h. h) (subst (AreCovered i.shows) (sym c.deref_mut.ensures.value) c.self.invariant.6)) in
    let most = c.self.invariant.1 in
    let some = c.self.invariant.2 in
    subst (λ (vs : List Lane). (length vs ≡ i.deskew.settings.lanes) × (length vs ≤ 64) × (1 ≤ length vs) × (i.left ≤ i.width) × (i.width ≤ 56) × AreWide i.width vs × AreCovered i.shows vs) (sym whole)
    (count ∙ c.self.invariant.0, omega (arith, count, most), omega (arith, count, some), c.self.invariant.3, c.self.invariant.4, wide, covered)
