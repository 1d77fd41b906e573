-- The lanes so far took a byte.
use Rattle.rx_front.specs.Lanes.{IsTaken}
use Rattle.rx_front.proofs.FirstDid.{FirstDid}
use Rattle.rx_front.proofs.lanes.take_all.Given as goal

abbrev pub invariant-loop-i : goal.invariant-loop-i
invariant-loop-i l = FirstDid (λ j. IsTaken 1) l.i l.fn.lanes l.lanes
