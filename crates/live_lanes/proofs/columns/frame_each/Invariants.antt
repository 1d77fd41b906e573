-- The lanes so far made a framing word.
use Rattle.live_lanes.specs.Lanes.{MakesFraming}
use Rattle.live_lanes.proofs.FirstDid.{FirstDid}
use Rattle.live_lanes.proofs.columns.frame_each.Given as goal

abbrev pub invariant-loop-i : goal.invariant-loop-i
invariant-loop-i l = FirstDid (λ j. MakesFraming) l.i l.fn.lanes l.lanes
