use Rattle.live_inspector.proofs.CallsHold.{given_are_first}
use Rattle.live_inspector.proofs.laws.given_are_first.Goals as goal

pub returns : goal.returns
returns c = given_are_first
