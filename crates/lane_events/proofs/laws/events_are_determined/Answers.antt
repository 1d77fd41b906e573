-- By the attempts of the lane, and bit by bit.
use Rattle.lane_events.proofs.EventsHold.{earlier_events_stay, events_determined, events_exist}
use Rattle.lane_events.proofs.laws.events_are_determined.Goals as goal

pub returns-clause-exist : goal.returns-clause-exist
returns-clause-exist c = events_exist

pub returns-clause-same : goal.returns-clause-same
returns-clause-same c = events_determined

pub returns-clause-stay : goal.returns-clause-stay
returns-clause-stay c = earlier_events_stay
