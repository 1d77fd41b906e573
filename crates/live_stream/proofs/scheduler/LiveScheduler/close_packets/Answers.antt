use Rattle.live_stream.proofs.More.{packets_step}
use Rattle.live_stream.proofs.scheduler.LiveScheduler.close_packets.Goals as goal

pub returns : goal.returns
returns c g w h = packets_step c.args.self.now g w h
