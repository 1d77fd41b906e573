-- The lane is there; words so far, all of which these bytes wanted; lanes that have ended stay so; and the room that is left on the first
-- lane.
use Rattle.std.proofs.Common.{◌≡◌, ◌-◌, ◌<◌, true, length}
use Rattle.live_lanes.specs.Lanes.{waiting_on}
use Rattle.live_end.specs.Calls.{MakesWords}
use Rattle.live_end.proofs.transmitter.LiveTransmitter.fill.Given as goal

abbrev pub invariant-loop-self : goal.invariant-loop-self
invariant-loop-self l = (l.fn.lane < length l.self.lanes.lanes) × MakesWords l.fn.lane l.fn.count l.fn.self l.self × (l.fn.self.lanes.ended ≡ true → l.self.lanes.ended ≡ true)

abbrev pub decreases-loop-self : goal.decreases-loop-self
decreases-loop-self l = 4096 - length (waiting_on 0 l.self.lanes)
