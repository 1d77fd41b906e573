-- A whole word, or none.
use Rattle.std.proofs.Common.{take, drop}
use Rattle.lk_base.specs.Checksum.{bits_of_bytes}
use Rattle.lane_lock.specs.Found.{found_steps}
use Rattle.lane_lock.proofs.Batches.{batch_none, batch_whole}
use Rattle.lane_lock.proofs.lane.LaneLock.next_piece.Goals as goal

pub returns-then-left-eq0-clause-stands : goal.returns-then-left-eq0-clause-stands
returns-then-left-eq0-clause-stands c = batch_none c.args.self.now (found_steps c.args.found.now)

pub returns-then-self-2-clause-stands : goal.returns-then-self-2-clause-stands
returns-then-self-2-clause-stands c =
    batch_whole c.args.self.now c.take_code-step.new.self c.code_at.result (take 67 (drop c.args.at (bits_of_bytes c.args.bytes.now))) c.take_code-step.result
    (found_steps c.args.found.now) (found_steps c.keep.new.self) c.code_at.ensures.bits c.take_code-step.ensures.low c.keep.ensures.steps c.take_code-step.ensures.stands
