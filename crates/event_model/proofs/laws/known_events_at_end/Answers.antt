-- At the end all events are known.
use Rattle.event_model.proofs.KnownEvents.{known_events_at_end}
use Rattle.event_model.proofs.laws.known_events_at_end.Goals as goal

pub returns : goal.returns
returns c = known_events_at_end
