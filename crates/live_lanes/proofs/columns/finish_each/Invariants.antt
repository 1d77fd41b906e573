-- The lanes so far made their last byte.
use Rattle.live_lanes.specs.Lanes.{MakesEnd}
use Rattle.live_lanes.proofs.FirstDid.{FirstDid}
use Rattle.live_lanes.proofs.columns.finish_each.Given as goal

abbrev pub invariant-loop-i : goal.invariant-loop-i
invariant-loop-i l = FirstDid (λ j. MakesEnd) l.i l.fn.lanes l.lanes
