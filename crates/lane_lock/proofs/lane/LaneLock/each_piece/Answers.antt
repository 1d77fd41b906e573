-- One piece more.
use Rattle.std.proofs.Common.{◌+◌, ◌∙◌, refl, sym, take, drop, arith}
use Rattle.std.proofs.Math.Seq.{take-add}
use Rattle.lk_base.specs.Checksum.{bits_of_bytes}
use Rattle.lane_lock.specs.Found.{found_steps}
use Rattle.lane_lock.proofs.Batches.{batched_all, batched_more, batched_none, length-bytes}
use Rattle.lane_lock.proofs.lane.LaneLock.each_piece.Goals as goal

pub loop-at-init : goal.loop-at-init
loop-at-init c = (batched_none c.args.self.now (bits_of_bytes c.args.bytes.now) (found_steps c.args.found.now), refl, omega arith)

pub payload_run-at-requires-clause-room : goal.payload_run-at-requires-clause-room
payload_run-at-requires-clause-room c begins =
    let b = c.loop-at.invariant.0 in
    let sparse = b.sparse in
    let taken = b.taken in
    let capacity = c.loop-at.invariant.1 in
    let room = c.requires.room in
    omega (arith, begins, sparse, taken, capacity, room)

pub loop-at-preserved : goal.loop-at-preserved
loop-at-preserved c =
    let given = bits_of_bytes c.args.bytes.now in
    let at = c.loop-at.at in
    let run = c.payload_run-at.result in
    let count = c.next_piece-at.result in
    let ran = batched_more c.args.self.now c.loop-at.self c.payload_run-at.new.self given (take run (drop at given)) at run
    (found_steps c.args.found.now) (found_steps c.loop-at.found) (found_steps c.payload_run-at.new.found) c.loop-at.invariant.0
    c.payload_run-at.ensures.taken c.payload_run-at.ensures.sparse c.payload_run-at.ensures.stands (sym (take-add at run given)) in (
      batched_more c.args.self.now c.payload_run-at.new.self c.next_piece-at.new.self given (take count (drop (at + run) given)) (at + run) count
          (found_steps c.args.found.now) (found_steps c.payload_run-at.new.found) (found_steps c.next_piece-at.new.found) ran
          c.next_piece-at.ensures.taken c.next_piece-at.ensures.sparse c.next_piece-at.ensures.stands (sym (take-add (at + run) count given)),
      c.next_piece-at.ensures.room ∙ c.payload_run-at.ensures.room ∙ c.loop-at.invariant.1,
      c.next_piece-at.ensures.there,
    )

pub returns-clause-stands : goal.returns-clause-stands
returns-clause-stands c =
    let l = length-bytes c.args.bytes.now in
    let past = c.loop-at-test.false in
    batched_all c.args.self.now c.loop-at.self (bits_of_bytes c.args.bytes.now) c.loop-at.at (found_steps c.args.found.now) (found_steps c.loop-at.found) (omega (arith, l, past)) c.loop-at.invariant.0
