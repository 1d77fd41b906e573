-- The lanes so far keep their locks, or are far from one.
use Rattle.std.proofs.Common.{ℕ, ◌<◌}
use Rattle.rx_front.proofs.Keeping.{KeepsAt}
use Rattle.rx_front.proofs.lanes.keep_locks.Given as goal

abbrev pub invariant-loop-i : goal.invariant-loop-i
invariant-loop-i l = (k : ℕ) → k < l.i → KeepsAt l.deskew.lanes l.lanes k
