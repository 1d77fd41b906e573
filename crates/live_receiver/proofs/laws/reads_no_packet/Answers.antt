-- The law on reads before the first event.
use Rattle.live_receiver.proofs.Following.{reads_no_packet}
use Rattle.live_receiver.proofs.laws.reads_no_packet.Goals as goal

pub returns : goal.returns
returns c = reads_no_packet
