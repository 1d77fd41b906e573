use Rattle.std.proofs.Common.{◌∙◌, sym, subst}
use Rattle.live_stream.specs.LiveStream.{Given}
use Rattle.live_stream.specs.Gives.{Gives}
use Rattle.live_stream.proofs.More.{close_step, closed_again, not_closed, is_closed}
use Rattle.live_stream.proofs.scheduler.LiveScheduler.finish.Goals as goal

pub returns-then-is_some : goal.returns-then-is_some
returns-then-is_some c g w h =
    let closed = is_closed c.args.self.now.closed c.is_some.result c.is_some.ensures c.if-is_some.true in
    subst (λ (v : Given). Gives c.args.self.now v w) (sym (closed_again c.args.self.now g w h closed.0 (sym h.closed ∙ closed.1))) h

pub returns : goal.returns
returns c g w h = close_step c.args.self.now g w h (sym h.closed ∙ not_closed c.args.self.now.closed c.is_some.result c.is_some.ensures c.if-is_some.false)
