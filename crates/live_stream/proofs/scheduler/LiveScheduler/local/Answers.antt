use Rattle.std.proofs.Common.{◌∙◌, length, sym}
use Rattle.stream_model.specs.BurstStream.{controls_in}
use Rattle.live_stream.proofs.More.{local_step, not_closed}
use Rattle.live_stream.proofs.scheduler.LiveScheduler.local.Goals as goal

pub returns-clause-ok : goal.returns-clause-ok
returns-clause-ok c g w h =
    let s = c.args.self.now in
    let still = sym h.closed ∙ not_closed s.closed c.is_some.result c.is_some.ensures c.if-is_some.false in
    local_step s g w h still c.local.new.self c.local.new.self.outgoing c.args.channel c.args.on c.local.ensures.line (c.local.ensures.stands g.entries g.local (controls_in w) (length w) h.words.burst.outgoing)
