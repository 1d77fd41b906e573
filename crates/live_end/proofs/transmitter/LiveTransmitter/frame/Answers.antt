-- Each lane made a framing word.
use Rattle.std.proofs.Common.{◌∙◌, sym, ap, subst, []}
use Rattle.live_end.specs.States.{State}
use Rattle.live_end.specs.Sending.{Sends, progress_of, with_columns}
use Rattle.live_end.proofs.Going.{framed_sends}
use Rattle.live_end.proofs.transmitter.LiveTransmitter.frame.Goals as goal

pub invariant_of-self : goal.invariant_of-self
invariant_of-self c =
    let v = c.self.inside in
    let (x, k) = c.self.invariant in (
      with_columns 1 [] x,
      framed_sends v.scheduler v.lanes v.row.items x k c.frame.new.self (c.frame.ensures.stands (progress_of x) k.stands) c.frame.ensures.going
          (λ at whole. c.requires.goes x (subst (λ (t : State). Sends t x) c.self.view_is k) (ap (λ (t : State). t.lanes.place) (sym c.self.view_is) ∙ at) whole),
    )

pub returns-clause-makes : goal.returns-clause-makes
returns-clause-makes c x h =
    let v = c.self.inside in
    let k = subst (λ (t : State). Sends t x) (sym c.self.view_is) h in (
      [],
      framed_sends v.scheduler v.lanes v.row.items x k c.frame.new.self (c.frame.ensures.stands (progress_of x) k.stands) c.frame.ensures.going
          (λ at whole. c.requires.goes x h (ap (λ (t : State). t.lanes.place) (sym c.self.view_is) ∙ at) whole),
    )
