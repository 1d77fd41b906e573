-- The words at the front, and then the others.
use Rattle.std.proofs.Common.{sym, ap, ◌∙◌, subst, List, arith, drop, take}
use Rattle.std.proofs.lemmas.List.{take-append-drop}
use Rattle.lock_model.specs.declared.types.LaneStep.{LaneStep}
use Rattle.lock_model.specs.declared.types.LaneStep.TheVariants.{Nothing}
use Rattle.lock_model.specs.Low.{all_low}
use Rattle.deskew.specs.States.{LaneState}
use Rattle.deskew.specs.Steps.{lane_after_all}
use Rattle.deskew.proofs.Loops.{low_at}
use Rattle.deskew.proofs.Runs.{after_append, low_drop}
use Rattle.deskew.proofs.lane_fifo.LaneFifo.take_all.Goals as goal

pub loop-step-init : goal.loop-step-init
loop-step-init c =
    let l = c.args.self.now in
    let n = c.take_words.result in
    let steps = c.args.steps.now in
    ap (λ (k : LaneState). lane_after_all k c.tail-rest.result.now) c.take_words.ensures.taken
    ∙ ap (λ (xs : List LaneStep). lane_after_all (lane_after_all l (take n steps)) xs) c.tail-rest.ensures
    ∙ sym (after_append l (take n steps) (drop n steps)) ∙ ap (λ (xs : List LaneStep). lane_after_all l xs) (take-append-drop n steps)

pub take-requires : goal.take-requires
take-requires c =
    low_at c.tail-rest.result.now c.loop-step.step-index Nothing
    (subst (λ (xs : List LaneStep). all_low xs) (sym c.tail-rest.ensures) (low_drop c.take_words.result c.args.steps.now c.requires)) (omega arith)
