-- One more word is at the front.
use Rattle.std.proofs.Common.{◌≤◌, ◌∙◌, subst, arith, length}
use Rattle.std.proofs.lemmas.List.{length-set}
use Rattle.lock_model.specs.declared.types.LaneStep.{LaneStep}
use Rattle.lock_model.specs.declared.types.LaneStep.TheVariants.{Nothing}
use Rattle.lock_model.specs.Low.{is_low}
use Rattle.deskew.specs.States.{LaneState}
use Rattle.deskew.proofs.Loops.{low_at}
use Rattle.deskew.proofs.Runs.{front_more}
use Rattle.deskew.proofs.lane_fifo.LaneFifo.words_front.Goals as goal

pub sync_after-sync-requires : goal.sync_after-sync-requires
sync_after-sync-requires c =
    let k = c.loop-place.place in
    let m = c.min-most.ensures in
    let lt = c.loop-place-test.true in
    (subst (λ (x : LaneStep). is_low x) c.in-Word.is (low_at c.args.steps.now k Nothing c.requires.low (omega (arith, m, lt))), c.loop-place.invariant.2)

pub loop-place-preserved : goal.loop-place-preserved
loop-place-preserved c =
    let i = c.loop-place.invariant in
    let k = c.loop-place.place in
    let steps = c.args.steps.now in
    let run = c.loop-place.run in
    let m = c.min-most.ensures in
    let lt = c.loop-place-test.true in
    let long = i.3 in
    let n = c.len-kept.ensures.len in
    let w = c.len-kept.ensures.within.0 in
    let fits : length c.args.self.now.words ≤ c.args.self.now.room = subst (λ (l : LaneState). length l.words ≤ l.room) c.self.view_is (omega (arith, n, w)) in
    let below = low_at steps k Nothing c.requires.low (omega (arith, m, lt)) in (
      front_more c.args.self.now steps run k c.loop-place.last c.loop-place.sync c.in-Word.word c.in-Word.role c.in-Word.at c.sync_after-sync.result (omega (arith, m, lt)) (omega (arith, m, lt, long))
          c.requires.lock fits c.in-Word.is c.sync_after-sync.ensures.value i.0,
      subst (λ (x : LaneStep). is_low x) c.in-Word.is below,
      c.sync_after-sync.ensures.low,
      length-set run k c.in-Word.word ∙ long,
    )
