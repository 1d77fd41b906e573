use Rattle.stream_commands.proofs.LanesSent.{gave_none}
use Rattle.stream_commands.proofs.lanes_maker.LanesMaker.new.Goals as goal

pub returns-clause-fresh : goal.returns-clause-fresh
returns-clause-fresh c = gave_none c.in_ok-transmitter.transmitter c.args.link.now c.args.source.now c.args.prefix.now c.in_ok-transmitter.ensures
