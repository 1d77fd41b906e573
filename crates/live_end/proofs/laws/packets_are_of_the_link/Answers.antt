use Rattle.std.proofs.Common.{ℕ, All, subst}
use Rattle.live_stream.specs.LiveStream.{LivePacket}
use Rattle.live_stream.specs.Gives.{IsAccepted}
use Rattle.live_end.proofs.laws.packets_are_of_the_link.Goals as goal

pub returns : goal.returns
returns c t x h = subst (λ (n : ℕ). All (λ (p : LivePacket). IsAccepted x.given.channels n p) x.given.packets) h.longest h.gives.words.given_by.accepted
