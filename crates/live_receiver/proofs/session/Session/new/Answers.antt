-- Nothing was fed.
use Rattle.std.proofs.Common.{true≢false, sym}
use Rattle.live_receiver.proofs.Feeding.{runs_made}
use Rattle.live_receiver.proofs.session.Session.new.Goals as goal

pub invariant_of-result : goal.invariant_of-result
invariant_of-result c = record {
  runs = ∣ runs_made c.in_ok-receiver.receiver c.args.plan.now.link _ _ _ c.in_ok-finished.finished.items c.in_ok-fed.fed.items c.lanes-lanes.result c.in_ok-receiver.ensures.stands c.lanes-lanes.ensures (c.in_ok-finished.ensures {u = tt}) (c.in_ok-fed.ensures {u = tt}) ∣₁;
  lent = ∣ (λ lends. absurd (true≢false (sym lends))) ∣₁;
}
