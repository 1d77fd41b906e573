-- The events compute.
use Rattle.lane_events.proofs.WorkedEventsHold.{worked}
use Rattle.lane_events.proofs.examples.worked_events.Goals as goal

pub returns : goal.returns
returns c = worked
