-- Two disparities of a sender are never over 129 apart.
use Rattle.lane_events.proofs.SendersBalance.{senders_are_balanced}
use Rattle.lane_events.proofs.laws.senders_are_balanced.Goals as goal

pub returns : goal.returns
returns c = senders_are_balanced
