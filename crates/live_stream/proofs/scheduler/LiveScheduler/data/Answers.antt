use Rattle.std.proofs.Common.{arith}
use Rattle.live_stream.proofs.Ends.{data_step}
use Rattle.live_stream.proofs.scheduler.LiveScheduler.data.Goals as goal

pub data-x-requires-clause-room : goal.data-x-requires-clause-room
data-x-requires-clause-room c = let (g, w, h, going) = c.requires.gives in let b = h.words.burst in let few = b.given.1 in let long = b.long in omega (arith, few, long)

pub returns : goal.returns
returns c g w h going = data_step c.args.self.now c.data-x.new.self g w c.data-x.result h going c.requires.going c.data-x.ensures.rest c.data-x.ensures.given c.data-x.ensures.value
