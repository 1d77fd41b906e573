-- The next event.
use Rattle.std.proofs.Common.{◌∙◌, sym}
use Rattle.std.proofs.Math.Logic.{∥∥₁_map}
use Rattle.live_receiver.proofs.Feeding.{lent_packet, runs_next}
use Rattle.live_receiver.proofs.session.Session.next.Goals as goal

pub invariant_of-self : goal.invariant_of-self
invariant_of-self c = record {
  runs = ∥∥₁_map c.args.self.now.runs (λ k. runs_next _ c.args.self.now.receiver c.next-event.new.self c.args.self.now.finished.items c.args.self.now.fed.items k c.next-event.ensures);
  lent = ∣ (λ lends. lent_packet _ c.args.self.now.receiver c.next-event.new.self c.next-event.ensures (sym c.is_lent-self.ensures ∙ lends)) ∣₁;
}
