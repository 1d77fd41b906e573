-- Rounds at once.
use Rattle.std.proofs.Common.{ℕ, ◌≡◌, sym, ap, ◌∙◌, subst, ◌≤◌, ◌*◌, false, List, length, All, arith}
use Rattle.rx_front.specs.Lanes.{AreCovered, AreTaken, AreWide, HasBytes}
use Rattle.rx_front.specs.States.{Lane, State}
use Rattle.rx_front.specs.Standing.{MovesQuietly, Stands, weight}
use Rattle.rx_front.proofs.Places.{written}
use Rattle.rx_front.proofs.RoundsMade.{after_rounds, found_bytes, less_by_rounds}
use Rattle.rx_front.proofs.Taking.{are_wide}
use Rattle.rx_front.proofs.Seen.{seen}
use Rattle.rx_front.proofs.front.Front.rounds.Goals as goal

pub returns-clause-moves : goal.returns-clause-moves
returns-clause-moves c = λ s fed items t st.
    let n = c.args.count in
    let v = seen c.self.inside in
    let whole = written {A = Lane} c.self.inside.lanes.len c.take_rounds-self-inside.new.lanes c.self.inside.lanes.items (c.take_rounds-self-inside.auto.lanes ∙ c.deref_mut.ensures.len) in
    let taken = subst (λ (vs : List Lane). AreTaken n vs c.take_rounds-self-inside.new.lanes) c.deref_mut.ensures.value c.take_rounds-self-inside.ensures.taken in
    let running = subst (λ (v : State). v.over ≡ false) (sym c.self.view_is) c.requires.running in
    let none = subst (λ (v : State). ◌≡◌ {A = ℕ} v.left 0) (sym c.self.view_is) c.requires.none in
    let has = subst (λ (v : State). All (HasBytes n) v.lanes) (sym c.self.view_is) c.requires.there in
    subst (λ (vs : List Lane). MovesQuietly (after_rounds n vs c.self.inside.over v) s fed items t) (sym whole)
    (found_bytes n v c.take_rounds-self-inside.new.lanes s fed items t running none c.requires.some has taken (subst (λ (v : State). Stands v s fed items t) (sym c.self.view_is) st))

pub returns-clause-less : goal.returns-clause-less
returns-clause-less c =
    let n = c.args.count in
    let v = seen c.self.inside in
    let whole = written {A = Lane} c.self.inside.lanes.len c.take_rounds-self-inside.new.lanes c.self.inside.lanes.items (c.take_rounds-self-inside.auto.lanes ∙ c.deref_mut.ensures.len) in
    let taken = subst (λ (vs : List Lane). AreTaken n vs c.take_rounds-self-inside.new.lanes) c.deref_mut.ensures.value c.take_rounds-self-inside.ensures.taken in
    let has = subst (λ (v : State). All (HasBytes n) v.lanes) (sym c.self.view_is) c.requires.there in
    subst (λ (vs : List Lane). weight (after_rounds n vs c.self.inside.over v) ≤ weight c.args.self.now) (sym whole)
    (subst (λ (x : State). weight (after_rounds n c.take_rounds-self-inside.new.lanes c.self.inside.over v) ≤ weight x) c.self.view_is (less_by_rounds n v c.take_rounds-self-inside.new.lanes c.self.invariant.2 has taken))

pub invariant_of-self : goal.invariant_of-self
invariant_of-self c =
    let i = c.self.inside in
    let n = c.args.count in
    let later = c.take_rounds-self-inside.new.lanes in
    let whole = written {A = Lane} i.lanes.len later i.lanes.items (c.take_rounds-self-inside.auto.lanes ∙ c.deref_mut.ensures.len) in
    let count : length later ≡ length i.lanes.items = c.take_rounds-self-inside.auto.lanes ∙ ap (λ (vs : List Lane). length vs) c.deref_mut.ensures.value in
    let wide : AreWide (8 * n) later = are_wide n c.deref_mut.result.now later c.take_rounds-self-inside.ensures.taken in
    let most = c.self.invariant.1 in
    let some = c.self.invariant.2 in
    let few = c.requires.most in
    subst (λ (vs : List Lane). (length vs ≡ i.deskew.settings.lanes) × (length vs ≤ 64) × (1 ≤ length vs) × (8 * n ≤ 8 * n) × (8 * n ≤ 56) × AreWide (8 * n) vs × AreCovered c.take_rounds-self-inside.result vs) (sym whole)
    (count ∙ c.self.invariant.0, omega (arith, count, most), omega (arith, count, some), omega arith, omega (arith, few), wide, c.take_rounds-self-inside.ensures.shown)
