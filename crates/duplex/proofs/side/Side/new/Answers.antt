use Rattle.std.proofs.Common.{refl}
use Rattle.duplex.proofs.Starts.{made}
use Rattle.duplex.proofs.side.Side.new.Goals as goal

pub returns : goal.returns
returns c settings ends keeps delays shapes listed calendar =
    made _ settings ends c.args.shape c.args.channels.now c.args.entries.now c.args.delay keeps delays shapes listed calendar c.in_ok-scheduler.ensures c.in_ok-queues.ensures.queues c.in_ok-queues.ensures.empty c.in_ok-way.ensures refl refl
