-- One more lane is made.
use Rattle.std.proofs.Common.{ℕ, ◌≡◌, ◌+◌, ◌∷◌, [], ◌++◌, ◌∙◌, List, inl, inr, sym, ap, subst, length, get_or, arith}
use Rattle.std.proofs.Math.Seq.{get_or-append_seam}
use Rattle.std.proofs.lemmas.Bool.{cases_lt}
use Rattle.std.proofs.lemmas.List.{get_or_append_left, length_push}
use Rattle.live_lanes.specs.States.{Lane}
use Rattle.live_lanes.specs.Lanes.{IsFresh}
use Rattle.live_lanes.proofs.columns.make_lanes.Goals as goal

pub loop-number-init : goal.loop-number-init
loop-number-init c = (ap length c.new-lanes.ensures.items, λ i d h. absurd (omega (arith, h)))

pub loop-number-preserved : goal.loop-number-preserved
loop-number-preserved c =
    let old : List Lane = c.loop-number.lanes.items in
    let lane : Lane = c.in_ok-lane.lane in
    let n : ℕ = c.loop-number.number in (
      ap length c.in_ok-push.ensures.items ∙ length_push old lane ∙ ap (λ m. m + 1) c.loop-number.invariant.0,
      λ i d h. subst (λ (xs : List Lane). IsFresh c.args.link.now i (get_or xs i d)) (sym c.in_ok-push.ensures.items)
          (elim (cases_lt i n) [
            | inl l ↦ subst (λ (x : Lane). IsFresh c.args.link.now i x) (sym (get_or_append_left old (lane ∷ []) d i (omega (arith, l, c.loop-number.invariant.0)))) (c.loop-number.invariant.1 i d l)
            | inr l ↦
                let e : length old ≡ i = omega (arith, h, l, c.loop-number.invariant.0) in
                let at : n ≡ i = omega (arith, e, c.loop-number.invariant.0) in
                let x : lane ≡ get_or (old ++ lane ∷ []) i d = sym (get_or-append_seam old lane [] d) ∙ ap (λ m. get_or (old ++ lane ∷ []) m d) e in
                subst (λ (y : Lane). IsFresh c.args.link.now i y) x (subst (λ m. IsFresh c.args.link.now m lane) at c.in_ok-lane.ensures)
          ]),
    )
