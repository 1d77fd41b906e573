-- Many rounds at once.
use Rattle.std.proofs.Common.{ℕ, ◌≡◌, sym, ap, ◌∙◌, subst, ◌<◌, ◌≤◌, false, List, length, All, arith}
use Rattle.lk_base.specs.Link.{Settings}
use Rattle.deskew.specs.States as deskew
use Rattle.rx_front.specs.Batches.{MayTake, TookBatch}
use Rattle.rx_front.specs.Lanes.{AreCovered, AreWide, HasBytes}
use Rattle.rx_front.specs.States.{Lane, State}
use Rattle.rx_front.specs.Standing.{MovesOn, Stands, weight}
use Rattle.rx_front.proofs.Batching.{after_batch, batch_moves, less_by_batch, none_wide, settings_kept}
use Rattle.rx_front.proofs.Places.{written}
use Rattle.rx_front.proofs.Seen.{seen}
use Rattle.rx_front.proofs.front.Front.take_batch.Goals as goal

pub returns-clause-moves : goal.returns-clause-moves
returns-clause-moves c = λ s fed items t st.
    let n = c.args.count in
    let v = seen c.self.inside in
    let later = c.take_batches.new.lanes in
    let d = c.take_batches.new.deskew in
    let whole = written {A = Lane} c.self.inside.lanes.len later c.self.inside.lanes.items (c.take_batches.auto.lanes ∙ c.deref_mut.ensures.len) in
    let took = subst (λ (vs : List Lane). TookBatch n vs later v.deskew d) c.deref_mut.ensures.value c.take_batches.ensures in
    let running = subst (λ (v : State). v.over ≡ false) (sym c.self.view_is) c.requires.running in
    let left = subst (λ (v : State). ◌≡◌ {A = ℕ} v.left 0) (sym c.self.view_is) c.requires.left in
    let has = subst (λ (v : State). All (HasBytes n) v.lanes) (sym c.self.view_is) c.requires.there in
    let can = subst (λ (v : State). MayTake v) (sym c.self.view_is) c.requires.ahead in
    subst (λ (vs : List Lane). MovesOn (after_batch vs d v) s fed items t) (sym whole)
    (batch_moves n v later d s fed items t running left c.requires.some c.requires.most has can took (subst (λ (v : State). Stands v s fed items t) (sym c.self.view_is) st))

pub returns-clause-less : goal.returns-clause-less
returns-clause-less c =
    let n = c.args.count in
    let v = seen c.self.inside in
    let later = c.take_batches.new.lanes in
    let d = c.take_batches.new.deskew in
    let whole = written {A = Lane} c.self.inside.lanes.len later c.self.inside.lanes.items (c.take_batches.auto.lanes ∙ c.deref_mut.ensures.len) in
    let took = subst (λ (vs : List Lane). TookBatch n vs later v.deskew d) c.deref_mut.ensures.value c.take_batches.ensures in
    let has = subst (λ (v : State). All (HasBytes n) v.lanes) (sym c.self.view_is) c.requires.there in
    subst (λ (vs : List Lane). weight (after_batch vs d v) < weight c.args.self.now) (sym whole)
    (subst (λ (x : State). weight (after_batch later d v) < weight x) c.self.view_is (less_by_batch n v later d c.requires.some c.self.invariant.2 has took))

pub invariant_of-self : goal.invariant_of-self
invariant_of-self c =
    let i = c.self.inside in
    let later = c.take_batches.new.lanes in
    let d = c.take_batches.new.deskew in
    let whole = written {A = Lane} i.lanes.len later i.lanes.items (c.take_batches.auto.lanes ∙ c.deref_mut.ensures.len) in
    let took = subst (λ (vs : List Lane). TookBatch c.args.count vs later i.deskew d) c.deref_mut.ensures.value c.take_batches.ensures in
    let none = none_wide c.args.count i.lanes.items later i.deskew d took in
    let same = took.batches.same in
    let left = subst (λ (v : State). ◌≡◌ {A = ℕ} v.left 0) (sym c.self.view_is) c.requires.left in
    let most = c.self.invariant.1 in
    let some = c.self.invariant.2 in
    subst (λ (vs : List Lane). (length vs ≡ d.settings.lanes) × (length vs ≤ 64) × (1 ≤ length vs) × (i.left ≤ 0) × (0 ≤ 56) × AreWide 0 vs × AreCovered 0 vs) (sym whole)
    (same ∙ c.self.invariant.0 ∙ sym (ap (λ (x : deskew.State). x.settings.lanes) took.deskew ∙ ap (λ (z : Settings). z.lanes) (settings_kept 0 took.columns i.deskew)), omega (arith, same, most), omega (arith, same, some), omega (arith, left), omega arith, none.0, none.1)
