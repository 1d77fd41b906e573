use Rattle.live_stream.proofs.OneLive.{one_live_stream, one_whole_stream}
use Rattle.live_stream.proofs.laws.one_live_stream.Goals as goal

pub returns : goal.returns
returns c = record { live = one_live_stream; whole = one_whole_stream }
