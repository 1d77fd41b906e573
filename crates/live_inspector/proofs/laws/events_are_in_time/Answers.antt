use Rattle.live_inspector.proofs.InTime.{events_are_in_time, feed_stops_soon}
use Rattle.live_inspector.proofs.laws.events_are_in_time.Goals as goal

pub returns : goal.returns
returns c = record { due = events_are_in_time; soon = feed_stops_soon }
