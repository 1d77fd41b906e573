-- The steps of the first lanes were taken.
use Rattle.std.proofs.Common.{map}
use Rattle.deskew.proofs.Taking.{TookFirst}
use Rattle.rx_front.specs.Lanes.{step_at}
use Rattle.rx_front.proofs.lanes.show_steps.Given as goal

abbrev pub invariant-loop-i : goal.invariant-loop-i
invariant-loop-i l = TookFirst l.i l.fn.deskew l.deskew (map (step_at l.k) l.lanes)
