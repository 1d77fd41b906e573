-- The counts are those of the scheduler.
use Rattle.std.proofs.Common.{sym, subst}
use Rattle.live_end.specs.States.{State}
use Rattle.live_end.specs.Sending.{Sends}
use Rattle.live_end.proofs.transmitter.LiveTransmitter.counts.Goals as goal

pub returns : goal.returns
returns c x h =
    let k = subst (λ (t : State). Sends t x) (sym c.self.view_is) h in
    c.counts.ensures x.given x.words k.gives
