-- What is known comes first among all events.
use Rattle.event_model.proofs.KnownEvents.{known_events_come_first, outputs_come_first}
use Rattle.event_model.proofs.laws.outputs_come_first.Goals as goal

pub returns : goal.returns
returns c = record { outputs = outputs_come_first; known = known_events_come_first }
