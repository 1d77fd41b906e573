use Rattle.live_inspector.proofs.CallsHold.{all_are_given}
use Rattle.live_inspector.proofs.laws.all_are_given.Goals as goal

pub returns : goal.returns
returns c = all_are_given
