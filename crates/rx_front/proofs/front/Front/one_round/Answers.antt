-- A round found all lanes at their end, or a byte.
use Rattle.std.proofs.Common.{ℕ, ◌≡◌, sym, ap, ◌∙◌, subst, ◌≤◌, ◌-◌, ◌^◌, false, List, length, arith}
use Rattle.rx_front.specs.States.{Lane, State}
use Rattle.rx_front.specs.Lanes.{AreCovered, AreTaken, AreWide, are_empty, are_ready}
use Rattle.rx_front.specs.Standing.{MovesQuietly, Stands, weight}
use Rattle.rx_front.proofs.Covering.{covered_by_ones}
use Rattle.rx_front.proofs.Places.{written}
use Rattle.rx_front.proofs.RoundsMade.{after_rounds, found_one, less_by_one}
use Rattle.rx_front.proofs.Taking.{are_wide}
use Rattle.rx_front.proofs.Seen.{seen}
use Rattle.rx_front.proofs.front.Front.one_round.Goals as goal

pub returns-clause-moves : goal.returns-clause-moves
returns-clause-moves c = λ s fed items t st.
    let i = c.self.inside in
    let later = c.take_all.new.lanes in
    let whole = written {A = Lane} i.lanes.len later i.lanes.items (c.take_all.auto.lanes ∙ c.deref_mut.ensures.len) in
    let ready = ap are_ready (sym c.deref.ensures.value) ∙ sym (c.if-not-are_ready.ensures {u = tt}) in
    let empty = c.are_empty-self-inside.ensures ∙ ap are_empty c.deref-2.ensures.value in
    let taken = subst (λ (vs : List Lane). AreTaken 1 vs later) c.deref_mut.ensures.value c.take_all.ensures in
    let running = subst (λ (v : State). v.over ≡ false) (sym c.self.view_is) c.requires.running in
    let none = subst (λ (v : State). ◌≡◌ {A = ℕ} v.left 0) (sym c.self.view_is) c.requires.none in
    subst (λ (vs : List Lane). MovesQuietly (after_rounds 1 vs c.are_empty-self-inside.result (seen i)) s fed items t) (sym whole)
    (found_one (seen i) later c.are_empty-self-inside.result s fed items t running none ready empty taken (subst (λ (v : State). Stands v s fed items t) (sym c.self.view_is) st))

pub returns-clause-less : goal.returns-clause-less
returns-clause-less c =
    let i = c.self.inside in
    let later = c.take_all.new.lanes in
    let whole = written {A = Lane} i.lanes.len later i.lanes.items (c.take_all.auto.lanes ∙ c.deref_mut.ensures.len) in
    let empty = c.are_empty-self-inside.ensures ∙ ap are_empty c.deref-2.ensures.value in
    let taken = subst (λ (vs : List Lane). AreTaken 1 vs later) c.deref_mut.ensures.value c.take_all.ensures in
    let running = subst (λ (v : State). v.over ≡ false) (sym c.self.view_is) c.requires.running in
    subst (λ (vs : List Lane). weight (after_rounds 1 vs c.are_empty-self-inside.result (seen i)) ≤ weight c.args.self.now) (sym whole)
    (subst (λ (v : State). weight (after_rounds 1 later c.are_empty-self-inside.result (seen i)) ≤ weight v) c.self.view_is (less_by_one (seen i) later c.are_empty-self-inside.result running empty taken))

pub invariant_of-self : goal.invariant_of-self
invariant_of-self c =
    let i = c.self.inside in
    let later = c.take_all.new.lanes in
    let whole = written {A = Lane} i.lanes.len later i.lanes.items (c.take_all.auto.lanes ∙ c.deref_mut.ensures.len) in
    let count : length later ≡ length i.lanes.items = c.take_all.auto.lanes ∙ ap (λ (vs : List Lane). length vs) c.deref_mut.ensures.value in
    let wide : AreWide 8 later = are_wide 1 c.deref_mut.result.now later c.take_all.ensures in
    let most = c.self.invariant.1 in
    let some = c.self.invariant.2 in
    subst (λ (vs : List Lane). (length vs ≡ i.deskew.settings.lanes) × (length vs ≤ 64) × (1 ≤ length vs) × (8 ≤ 8) × (8 ≤ 56) × AreWide 8 vs × AreCovered (2 ^ 64 - 1) vs) (sym whole)
    (count ∙ c.self.invariant.0, omega (arith, count, most), omega (arith, count, some), omega arith, omega arith, wide, covered_by_ones 8 later (omega arith) wide)
