-- The law on reads.
use Rattle.live_receiver.proofs.Following.{reads_the_packet}
use Rattle.live_receiver.proofs.laws.reads_the_packet.Goals as goal

pub returns : goal.returns
returns c = reads_the_packet
