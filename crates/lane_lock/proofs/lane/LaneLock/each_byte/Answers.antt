-- A byte more.
use Rattle.std.proofs.Common.{◌*◌, ◌∙◌, refl, get_or, arith}
use Rattle.lk_base.specs.Checksum.{bits_of_bytes}
use Rattle.lane_lock.specs.Found.{found_steps}
use Rattle.lane_lock.proofs.Batches.{batched_all, batched_byte, batched_none, length-bytes}
use Rattle.lane_lock.proofs.lane.LaneLock.each_byte.Goals as goal

pub loop-byte-init : goal.loop-byte-init
loop-byte-init c = (batched_none c.args.self.now (bits_of_bytes c.args.bytes.now) (found_steps c.args.found.now), refl)

pub loop-byte-preserved : goal.loop-byte-preserved
loop-byte-preserved c = (
  batched_byte c.args.self.now c.loop-byte.self c.append.new.self c.args.bytes.now c.loop-byte.byte-index (get_or c.args.bytes.now c.loop-byte.byte-index 0)
      (found_steps c.args.found.now) (found_steps c.loop-byte.found) (found_steps c.append.new.found) c.loop-byte-test.true refl c.loop-byte.invariant.0
      c.append.ensures.taken c.append.ensures.sparse c.append.ensures.stands,
  c.append.ensures.room ∙ c.loop-byte.invariant.1,
)

pub returns-clause-stands : goal.returns-clause-stands
returns-clause-stands c =
    let l = length-bytes c.args.bytes.now in
    let past = c.loop-byte-test.false in
    batched_all c.args.self.now c.loop-byte.self (bits_of_bytes c.args.bytes.now) (8 * c.loop-byte.byte-index) (found_steps c.args.found.now) (found_steps c.loop-byte.found)
    (omega (arith, l, past)) c.loop-byte.invariant.0
