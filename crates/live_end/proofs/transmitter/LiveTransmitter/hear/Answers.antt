-- A row is taken, or the stream was closed.
use Rattle.std.proofs.Common.{subst}
use Rattle.duplex_model.specs.DuplexRun.{heard_word}
use Rattle.live_end.specs.States.{State, state}
use Rattle.live_end.specs.Calls.{IsFlow}
use Rattle.live_end.proofs.Going.{flow_is, flow_keeps}
use Rattle.live_end.proofs.transmitter.LiveTransmitter.hear.Goals as goal

pub invariant_of-self : goal.invariant_of-self
invariant_of-self c =
    let v = c.self.inside in
    let (x, k) = c.self.invariant in
    flow_keeps (state v.scheduler v.lanes v.row.items) (state c.hear.new.self v.lanes v.row.items) (heard_word c.args.word) c.hear.result
    (flow_is v.scheduler c.hear.new.self v.lanes v.row.items (heard_word c.args.word) c.hear.result c.hear.ensures.«open» c.hear.ensures.closed) x k

pub returns : goal.returns
returns c =
    let v = c.self.inside in
    subst (λ (t : State). IsFlow t (state c.hear.new.self v.lanes v.row.items) (heard_word c.args.word) c.hear.result) c.self.view_is
    (flow_is v.scheduler c.hear.new.self v.lanes v.row.items (heard_word c.args.word) c.hear.result c.hear.ensures.«open» c.hear.ensures.closed)
