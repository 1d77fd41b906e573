-- The first bytes were taken.
use Rattle.std.proofs.Common.{◌≡◌, ◌*◌}
use Rattle.lk_base.specs.Checksum.{bits_of_bytes}
use Rattle.lane_lock.specs.Found.{found_steps}
use Rattle.lane_lock.proofs.Batches.{Batched}
use Rattle.lane_lock.proofs.lane.LaneLock.each_byte.Given as goal

abbrev pub invariant-loop-byte : goal.invariant-loop-byte
invariant-loop-byte l =
    Batched l.fn.self l.self (bits_of_bytes l.bytes) (8 * l.byte-index) (found_steps l.fn.found) (found_steps l.found) × (l.found.room ≡ l.fn.found.room)
