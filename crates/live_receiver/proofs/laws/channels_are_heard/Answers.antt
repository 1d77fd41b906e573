-- The law on what is heard.
use Rattle.live_receiver.proofs.Hearing.{channels_are_heard}
use Rattle.live_receiver.proofs.laws.channels_are_heard.Goals as goal

pub returns : goal.returns
returns c = channels_are_heard
