-- Payload words were taken, and the others of the run come next.
use Rattle.std.proofs.Common.{◌-◌, ◌≤◌, drop}
use Rattle.lk_base.specs.Checksum.{bits_of_bytes}
use Rattle.lane_lock.specs.Found.{found_steps}
use Rattle.lane_lock.proofs.Collected.{Collected}
use Rattle.lane_lock.proofs.lane.LaneLock.take_payloads.Given as goal

abbrev pub invariant-loop-done : goal.invariant-loop-done
invariant-loop-done l = record {
  collected : Collected l.fn.self (drop l.fn.first (bits_of_bytes l.bytes)) (found_steps l.fn.found) l.number l.start l.words l.done l.last l.run l.fn.found.room l.found;
  most : l.done ≤ l.words;
}

abbrev pub decreases-loop-done : goal.decreases-loop-done
decreases-loop-done l = l.words - l.done
