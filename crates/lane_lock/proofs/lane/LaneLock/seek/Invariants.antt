-- The first bits were taken.
use Rattle.std.proofs.Common.{◌≤◌}
use Rattle.lane_lock.proofs.Resting.{Sought}
use Rattle.lane_lock.proofs.lane.LaneLock.seek.Given as goal

abbrev pub invariant-loop-k : goal.invariant-loop-k
invariant-loop-k l = Sought l.fn.self l.self l.count l.bits l.k × (l.fn.self.at ≤ l.self.at)
