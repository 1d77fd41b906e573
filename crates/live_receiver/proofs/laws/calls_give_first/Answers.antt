-- The law on calls.
use Rattle.live_receiver.proofs.Following.{calls_give_first}
use Rattle.live_receiver.proofs.laws.calls_give_first.Goals as goal

pub returns : goal.returns
returns c = calls_give_first
