use Rattle.live_gatherer.proofs.LawsHold.{numbered_are_gathered}
use Rattle.live_gatherer.proofs.laws.numbered_are_gathered.Goals as goal

pub returns : goal.returns
returns c = numbered_are_gathered
