-- One more lane keeps its lock, or is far from one.
use Rattle.std.proofs.Common.{◌≡◌, refl, sym, ◌∙◌, subst, true, get_or, arith, inl, inr}
use Rattle.std.specs.Prelude.{◌⊎◌}
use Rattle.lane_lock.specs.Search.{IsFar}
use Rattle.deskew.specs.Ahead.{is_locked}
use Rattle.deskew.specs.Lanes.{fresh_lane}
use Rattle.rx_front.specs.States.{Lane}
use Rattle.rx_front.proofs.Keeping.{KeepsAt, keeps_at}
use Rattle.rx_front.proofs.lanes.keep_locks.Goals as goal
use borrow.Author.Count.{below_none, below_more}

pub loop-i-init : goal.loop-i-init
loop-i-init c = below_none (KeepsAt c.args.deskew.now.lanes c.args.lanes.now)

pub loop-i-preserved : goal.loop-i-preserved
loop-i-preserved c =
    let d = c.index-lanes-i.result in
    let here : (is_locked (get_or c.args.deskew.now.lanes c.loop-i.i (fresh_lane 0)) ≡ true) ⊎ IsFar (get_or c.args.lanes.now c.loop-i.i d).lock =
    elim (c.if-not-declares_none.ensures.none refl) [
      | inl e ↦ inl (sym c.is_locked-locked.ensures ∙ e)
      | inr k ↦ inr (subst (λ (v : Lane). IsFar v.lock) c.index-lanes-i.is k)
    ] in
    below_more (KeepsAt c.args.deskew.now.lanes c.args.lanes.now) c.loop-i.i c.loop-i.invariant (keeps_at c.loop-i.i c.args.deskew.now.lanes c.args.lanes.now (fresh_lane 0) d c.loop-i-test.true here)

pub returns-then-not-declares_none-clause-lose : goal.returns-then-not-declares_none-clause-lose
returns-then-not-declares_none-clause-lose c = λ each refused keep.
    let i = c.loop-i.i in
    let there = c.loop-i-test.true in
    c.if-not-declares_none.ensures.some refl (
    elim (keep i (fresh_lane 0) c.index-lanes-i.result (omega (arith, each, there)) there) [
      | inl e ↦ inl (c.is_locked-locked.ensures ∙ e)
      | inr k ↦ inr (subst (λ (v : Lane). IsFar v.lock) (sym c.index-lanes-i.is) k)
    ]
    )

pub returns-clause-keep : goal.returns-clause-keep
returns-clause-keep c = λ yes i e d lt there. (let all = c.loop-i-test.false in c.loop-i.invariant i (omega (arith, there, all)) e d lt)
