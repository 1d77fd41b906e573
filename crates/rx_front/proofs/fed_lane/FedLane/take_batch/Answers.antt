-- This many bytes are taken of the ring, and the deskew takes what they show.
use Rattle.std.proofs.Common.{ℕ, ◌≤◌, sym, ap, subst, length}
use Rattle.circular_buffer.specs.Buffer.{Buffer}
use Rattle.rx_front.specs.States.{Lane}
use Rattle.rx_front.proofs.Batching.{batch_of}
use Rattle.rx_front.proofs.fed_lane.FedLane.take_batch.Goals as goal

pub returns : goal.returns
returns c =
    batch_of _ _ c.pass_bytes.new.ring.items c.take.new.steps.lock c.take.new.steps.shown c.take.new.self c.args.count c.args.lane c.args.deskew.now c.give.new.deskew c.self.view_is c.requires.some
    (subst (λ (v : Lane). c.args.count ≤ length v.ring) (sym c.self.view_is) c.requires.there)
    (ap (λ (b : Buffer ℕ). b.items) c.pass_bytes.ensures) c.take.ensures.shown c.take.ensures.stands
    c.give.ensures
