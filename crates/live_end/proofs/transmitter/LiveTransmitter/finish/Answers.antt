-- The stream is closed.
use Rattle.std.proofs.Common.{ap, sym, subst}
use Rattle.live_end.specs.States.{State}
use Rattle.live_end.specs.Sending.{Sends, with_close}
use Rattle.live_end.proofs.Going.{close_sends}
use Rattle.live_end.proofs.transmitter.LiveTransmitter.finish.Goals as goal

pub invariant_of-self : goal.invariant_of-self
invariant_of-self c =
    let v = c.self.inside in
    let (x, k) = c.self.invariant in
    (with_close x, close_sends v.scheduler c.finish.new.self v.lanes v.row.items x k (c.finish.ensures x.given x.words k.gives))

pub returns : goal.returns
returns c =
    let v = c.self.inside in (
      ap (λ (t : State). t.lanes) c.self.view_is,
      λ x h.
          let k = subst (λ (t : State). Sends t x) (sym c.self.view_is) h in
          close_sends v.scheduler c.finish.new.self v.lanes v.row.items x k (c.finish.ensures x.given x.words k.gives),
    )
