-- The first bits were taken.
use Rattle.std.proofs.Common.{◌≡◌, ◌≤◌, ◌-◌, ◌*◌, length}
use Rattle.lk_base.specs.Checksum.{bits_of_bytes}
use Rattle.lane_lock.specs.Found.{found_steps}
use Rattle.lane_lock.proofs.Batches.{Batched}
use Rattle.lane_lock.proofs.lane.LaneLock.each_piece.Given as goal

abbrev pub invariant-loop-at : goal.invariant-loop-at
invariant-loop-at l =
    Batched l.fn.self l.self (bits_of_bytes l.bytes) l.at (found_steps l.fn.found) (found_steps l.found) × (l.found.room ≡ l.fn.found.room) × (l.at ≤ 8 * length l.bytes)

abbrev pub decreases-loop-at : goal.decreases-loop-at
decreases-loop-at l = 8 * length l.bytes - l.at
