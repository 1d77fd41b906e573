-- The former events stay in front.
use Rattle.event_model.proofs.KnownEvents.{known_events_stay}
use Rattle.event_model.proofs.laws.known_events_stay.Goals as goal

pub returns : goal.returns
returns c = known_events_stay
