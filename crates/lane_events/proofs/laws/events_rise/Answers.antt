-- Word by word, and attempt by attempt.
use Rattle.lane_events.proofs.Rise.{events_rise}
use Rattle.lane_events.proofs.laws.events_rise.Goals as goal

pub returns : goal.returns
returns c = events_rise
