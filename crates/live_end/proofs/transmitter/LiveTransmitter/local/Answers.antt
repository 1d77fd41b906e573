-- A state is taken or refused.
use Rattle.std.proofs.Common.{subst}
use Rattle.live_end.specs.States.{State, state}
use Rattle.live_end.specs.Calls.{IsLocal}
use Rattle.live_end.proofs.Going.{local_is, local_keeps}
use Rattle.live_end.proofs.transmitter.LiveTransmitter.local.Goals as goal

pub invariant_of-self : goal.invariant_of-self
invariant_of-self c =
    let v = c.self.inside in
    let (x, k) = c.self.invariant in
    local_keeps (state v.scheduler v.lanes v.row.items) (state c.local.new.self v.lanes v.row.items) c.args.channel c.args.on c.local.result
    (local_is v.scheduler c.local.new.self v.lanes v.row.items c.args.channel c.args.on c.local.result c.local.ensures.ok c.local.ensures.err c.local.ensures.why) x k

pub returns : goal.returns
returns c =
    let v = c.self.inside in
    subst (λ (t : State). IsLocal t (state c.local.new.self v.lanes v.row.items) c.args.channel c.args.on c.local.result) c.self.view_is
    (local_is v.scheduler c.local.new.self v.lanes v.row.items c.args.channel c.args.on c.local.result c.local.ensures.ok c.local.ensures.err c.local.ensures.why)
