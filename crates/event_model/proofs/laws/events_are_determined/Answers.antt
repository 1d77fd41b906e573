-- Whole lanes have events, and one list of them.
use Rattle.event_model.proofs.KnownEvents.{events_are_determined, events_exist}
use Rattle.event_model.proofs.laws.events_are_determined.Goals as goal

pub returns : goal.returns
returns c = record { exist = events_exist; same = events_are_determined }
