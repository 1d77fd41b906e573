-- This many bytes are taken of the ring, and the lock takes their bits.
use Rattle.std.proofs.Common.{ℕ, ◌≤◌, sym, ap, subst, length}
use Rattle.circular_buffer.specs.Buffer.{Buffer}
use Rattle.rx_front.specs.States.{Lane}
use Rattle.rx_front.proofs.Rounds.{is_taken}
use Rattle.rx_front.proofs.fed_lane.FedLane.take_bytes.Goals as goal

pub returns-clause-taken : goal.returns-clause-taken
returns-clause-taken c =
    is_taken _ _ c.take_bits-bits.new.ring.items c.take.new.self.lock c.take.new.self.shown c.args.count c.take_bits-bits.result c.self.view_is c.take.ensures.count c.requires.some
    (subst (λ (v : Lane). c.args.count ≤ length v.ring) (sym c.self.view_is) c.requires.there)
    (ap (λ (b : Buffer ℕ). b.items) c.take_bits-bits.ensures.ring) c.take_bits-bits.ensures.bits c.take.ensures.stands
