use Rattle.live_stream.proofs.Later.{later_is_not_heard}
use Rattle.live_stream.proofs.laws.later_is_not_heard.Goals as goal

pub returns : goal.returns
returns c = later_is_not_heard
