-- The packets are closed.
use Rattle.std.proofs.Common.{ap, sym, subst}
use Rattle.live_end.specs.States.{State}
use Rattle.live_end.specs.Sending.{Sends, with_packets_closed}
use Rattle.live_end.proofs.Going.{packets_sends}
use Rattle.live_end.proofs.transmitter.LiveTransmitter.close_packets.Goals as goal

pub invariant_of-self : goal.invariant_of-self
invariant_of-self c =
    let v = c.self.inside in
    let (x, k) = c.self.invariant in
    (with_packets_closed x, packets_sends v.scheduler c.close_packets.new.self v.lanes v.row.items x k c.closed_packets_change_no_word.ensures.whole (c.close_packets.ensures x.given x.words k.gives))

pub returns : goal.returns
returns c =
    let v = c.self.inside in (
      ap (λ (t : State). t.lanes) c.self.view_is,
      λ x h.
          let k = subst (λ (t : State). Sends t x) (sym c.self.view_is) h in
          packets_sends v.scheduler c.close_packets.new.self v.lanes v.row.items x k c.closed_packets_change_no_word.ensures.whole (c.close_packets.ensures x.given x.words k.gives),
    )
