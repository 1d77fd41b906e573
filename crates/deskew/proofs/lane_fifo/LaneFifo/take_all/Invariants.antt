-- The steps that are left lead to the lane after all of them.
use Rattle.std.proofs.Common.{◌≡◌, drop}
use Rattle.deskew.specs.Steps.{lane_after_all}
use Rattle.deskew.proofs.lane_fifo.LaneFifo.take_all.Given as goal

abbrev pub invariant-loop-step : goal.invariant-loop-step
invariant-loop-step l = lane_after_all l.self (drop l.step-index l.rest) ≡ lane_after_all l.fn.self l.steps
