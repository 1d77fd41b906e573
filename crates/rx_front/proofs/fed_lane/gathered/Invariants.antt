-- The first bytes were taken.
use Rattle.rx_front.proofs.Gathering.{Gathered}
use Rattle.rx_front.proofs.fed_lane.gathered.Given as goal

abbrev pub invariant-loop-k : goal.invariant-loop-k
invariant-loop-k l = Gathered l.fn.ring l.ring l.k l.bits
