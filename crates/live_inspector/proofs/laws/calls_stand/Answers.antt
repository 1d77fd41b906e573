use Rattle.live_inspector.proofs.CallsHold.{calls_stand}
use Rattle.live_inspector.proofs.laws.calls_stand.Goals as goal

pub returns : goal.returns
returns c = calls_stand
