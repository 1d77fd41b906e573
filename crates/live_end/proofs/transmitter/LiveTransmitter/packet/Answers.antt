-- A packet is taken or refused.
use Rattle.std.proofs.Common.{subst}
use Rattle.live_end.specs.States.{State, state}
use Rattle.live_end.specs.Calls.{IsPacket}
use Rattle.live_end.proofs.Going.{packet_is, packet_keeps}
use Rattle.live_end.proofs.transmitter.LiveTransmitter.packet.Goals as goal

pub invariant_of-self : goal.invariant_of-self
invariant_of-self c =
    let v = c.self.inside in
    let (x, k) = c.self.invariant in
    packet_keeps (state v.scheduler v.lanes v.row.items) (state c.packet.new.self v.lanes v.row.items) c.args.channel c.args.bytes.now c.packet.result
    (packet_is v.scheduler c.packet.new.self v.lanes v.row.items c.args.channel c.args.bytes.now c.packet.result c.packet.ensures.ok c.packet.ensures.err c.packet.ensures.why) x k

pub returns : goal.returns
returns c =
    let v = c.self.inside in
    subst (λ (t : State). IsPacket t (state c.packet.new.self v.lanes v.row.items) c.args.channel c.args.bytes.now c.packet.result) c.self.view_is
    (packet_is v.scheduler c.packet.new.self v.lanes v.row.items c.args.channel c.args.bytes.now c.packet.result c.packet.ensures.ok c.packet.ensures.err c.packet.ensures.why)
