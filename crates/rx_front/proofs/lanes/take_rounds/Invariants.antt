-- The lanes so far took this many bytes, and show nothing where the number has a 0.
use Rattle.rx_front.proofs.Covering.{TookShown}
use Rattle.rx_front.proofs.FirstDid.{FirstDid}
use Rattle.rx_front.proofs.lanes.take_rounds.Given as goal

abbrev pub invariant-loop-i : goal.invariant-loop-i
invariant-loop-i l = FirstDid (TookShown l.count l.shows) l.i l.fn.lanes l.lanes
