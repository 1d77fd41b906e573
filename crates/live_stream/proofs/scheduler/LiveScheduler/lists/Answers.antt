use Rattle.std.proofs.Common.{arith}
use Rattle.live_stream.proofs.Listed.{found_listed}
use Rattle.live_stream.proofs.scheduler.LiveScheduler.lists.Goals as goal

pub returns : goal.returns
returns c g w h =
    let s = c.args.self.now in
    found_listed s g w c.args.channel c.place.result c.len.result c.deref.result.now h c.deref.ensures.value (omega (arith, c.len.ensures, s.turns.ok.0)) c.place.ensures.found c.place.ensures.missing c.place.ensures.within
