-- Attempt by attempt.
use Rattle.lane_events.proofs.Counts.{events_are_counted}
use Rattle.lane_events.proofs.laws.events_are_counted.Goals as goal

pub returns : goal.returns
returns c = events_are_counted
