-- An event is known with the last bit of its word.
use Rattle.lane_events.proofs.Due.{events_are_due}
use Rattle.lane_events.proofs.laws.events_are_due.Goals as goal

pub returns : goal.returns
returns c = events_are_due
