use Rattle.live_gatherer.proofs.LawsHold.{end_gave_all}
use Rattle.live_gatherer.proofs.laws.end_gave_all.Goals as goal

pub returns : goal.returns
returns c = end_gave_all
