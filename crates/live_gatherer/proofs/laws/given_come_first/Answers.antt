use Rattle.live_gatherer.proofs.LawsHold.{given_come_first}
use Rattle.live_gatherer.proofs.laws.given_come_first.Goals as goal

pub returns : goal.returns
returns c = given_come_first
