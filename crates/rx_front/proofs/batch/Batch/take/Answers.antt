-- One piece of the ring, or both.
use Rattle.std.proofs.Common.{ℕ, ◌≤◌, ◌+◌, ◌*◌, ◌/◌, ◌-◌, ◌++◌, sym, subst, Bool, List, [], length, take, arith}
use Rattle.std.proofs.lemmas.List.{length-append, length-take-le}
use Rattle.lk_base.specs.Checksum.{bits_of_bytes}
use Rattle.lock_model.specs.declared.types.LaneStep.{LaneStep}
use Rattle.lane_lock.specs.Bytes.{BringsBatch}
use Rattle.lane_lock.specs.Found.{found_steps}
use Rattle.lane_lock.proofs.Batches.{batch_both}
use Rattle.event_model.proofs.Clocks.{length-bits}
use Rattle.rx_front.proofs.Slices.{cut_both, found_low, found_most}
use Rattle.rx_front.proofs.batch.Batch.take.Goals as goal

pub invariant_of-self : goal.invariant_of-self
invariant_of-self c =
    let a = c.clear.ensures.room in
    let b = c.take_batch.ensures.room in
    let i = c.self.invariant.0 in
    (omega (arith, a, b, i), found_low _ _ _ _ _ c.clear.ensures.steps c.take_batch.ensures.stands)

pub take_batch-requires-else-count-front-2-clause-room : goal.take_batch-requires-else-count-front-2-clause-room
take_batch-requires-else-count-front-2-clause-room c =
    let front = c.as_slices.result.0.now in
    let back = c.as_slices.result.1.now in
    let n = c.args.count - length front in
    let a = c.clear.ensures.room in
    let b = c.take_batch-else-count-front.ensures.room in
    let i = c.self.invariant.0 in
    let m = found_most _ _ _ _ _ c.clear.ensures.steps c.take_batch-else-count-front.ensures.stands in
    let f = length-bits front in
    let l = length-append front back in
    let e = c.as_slices.ensures in
    let h = c.requires.there in
    let most = c.requires.most in
    let low = c.if-count-front.false in
    let within : n ≤ length back = subst (λ (xs : List ℕ). c.args.count ≤ length xs → n ≤ length back) e (λ k. omega (arith, k, l)) h in
    let t = length-take-le n back within in
    let d : 8 * n / 67 ≤ 8 * n = omega arith in
    subst (λ (k : ℕ). length (found_steps c.take_batch-else-count-front.new.found) + 8 * k / 67 + 1 ≤ c.take_batch-else-count-front.new.found.room) (sym t) (omega (arith, a, b, i, m, f, most, low, d))

pub invariant_of-self-else-count-front : goal.invariant_of-self-else-count-front
invariant_of-self-else-count-front c =
    let a = c.clear.ensures.room in
    let b = c.take_batch-else-count-front.ensures.room in
    let d = c.take_batch-else-count-front-2.ensures.room in
    let i = c.self.invariant.0 in
    (omega (arith, a, b, d, i), found_low _ _ _ _ _ c.clear.ensures.steps (batch_both _ _ _ _ _ _ _ _ c.take_batch-else-count-front.ensures.stands c.take_batch-else-count-front-2.ensures.stands))

pub returns-else-count-front-clause-stands : goal.returns-else-count-front-clause-stands
returns-else-count-front-clause-stands c =
    let low = c.if-count-front.false in
    subst (λ (bits : List Bool). BringsBatch c.args.steps.now.lock c.take_batch-else-count-front-2.new.self.lock bits [] (found_steps c.take_batch-else-count-front-2.new.found))
    (cut_both c.as_slices.result.0.now c.as_slices.result.1.now c.args.ring.now.items c.args.count c.as_slices.ensures (omega (arith, low)))
    (subst (λ (before : List LaneStep). BringsBatch c.args.steps.now.lock c.take_batch-else-count-front-2.new.self.lock (bits_of_bytes c.as_slices.result.0.now ++ bits_of_bytes (take (c.args.count - length c.as_slices.result.0.now) c.as_slices.result.1.now)) before (found_steps c.take_batch-else-count-front-2.new.found)) c.clear.ensures.steps
    (batch_both _ _ _ _ _ _ _ _ c.take_batch-else-count-front.ensures.stands c.take_batch-else-count-front-2.ensures.stands))
