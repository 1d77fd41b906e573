use Rattle.live_gatherer.proofs.LawsHold.{none_waits_for_bytes}
use Rattle.live_gatherer.proofs.laws.none_waits_for_bytes.Goals as goal

pub returns : goal.returns
returns c = none_waits_for_bytes
