-- The lanes so far took this many bytes.
use Rattle.rx_front.proofs.Batching.{TookFirst}
use Rattle.rx_front.proofs.lanes.take_batches.Given as goal

abbrev pub invariant-loop-i : goal.invariant-loop-i
invariant-loop-i l = TookFirst l.count l.i l.fn.lanes l.lanes l.fn.deskew l.deskew
