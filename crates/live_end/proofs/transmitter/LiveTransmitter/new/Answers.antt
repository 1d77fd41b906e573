-- Nothing was given, and no word made.
use Rattle.std.proofs.Common.{rules}
use Rattle.live_end.specs.Sending.{nothing_sent}
use Rattle.live_end.proofs.transmitter.LiveTransmitter.new.Goals as goal

pub invariant_of-result : goal.invariant_of-result
invariant_of-result c = (nothing_sent c.args.link.now c.args.shape c.args.channels.now c.args.entries.now, search rules)
