-- The part of the kept words.
use Rattle.std.proofs.Common.{ℕ, ◌≡◌, refl, ap, ◌∙◌, ◌++◌, List, arith, drop, length, min, take}
use Rattle.std.specs.Prelude.{◌-◌}
use Rattle.lk_base.specs.declared.word.RxWord.{RxWord}
use Rattle.deskew.specs.States.{LaneState}
use Rattle.deskew.proofs.Spread.{part_of_two}
use Rattle.deskew.proofs.lane_fifo.LaneFifo.kept.Goals as goal

pub returns : goal.returns
returns c =
    let front = c.as_slices.result.0.now in
    let rest = c.as_slices.result.1.now in
    let words = c.args.self.now.words in
    let same : c.self.inside.words.items ≡ words = ap (λ (l : LaneState). l.words) c.self.view_is in
    let first = c.len.result - c.args.back - 1 in
    let n = c.len.ensures.len in
    let k = ap length same in
    let at : first ≡ length words - c.args.back - 1 = omega (arith, n, k) in
    let h = c.min-here.ensures in
    let s = c.saturating_sub.ensures in
    let here : c.min-here.result ≡ min (length front - first) c.args.count = omega (arith, h, s) in
    ap (λ (ws : List RxWord). ws ++ c.part-2.result.now) c.part.ensures
    ∙ ap (λ (ws : List RxWord). take c.min-here.result (drop c.min.result front) ++ ws) c.part-2.ensures
    ∙ part_of_two front rest first c.args.count c.min-here.result c.min.result c.saturating_sub-2.result (c.args.count - c.min-here.result) here c.min.ensures c.saturating_sub-2.ensures refl
    ∙ ap (λ (ws : List RxWord). take c.args.count (drop first ws)) (c.as_slices.ensures ∙ same)
    ∙ ap (λ (i : ℕ). take c.args.count (drop i words)) at
