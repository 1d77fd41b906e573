-- Lanes so far have events that are known.
use Rattle.event_model.proofs.KnownEvents.{known_events_are_determined, known_events_exist}
use Rattle.event_model.proofs.laws.known_events_are_determined.Goals as goal

pub returns : goal.returns
returns c = record { exist = known_events_exist; same = known_events_are_determined }
