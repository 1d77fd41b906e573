-- Words are made, and then bytes are taken.
use Rattle.std.proofs.Common.{◌≡◌, ◌∙◌, sym, ap, subst, arith, length, take}
use Rattle.live_end.specs.States.{State, state}
use Rattle.live_end.specs.Sending.{progress_of, with_taken}
use Rattle.live_lanes.specs.Lanes.{waiting_on}
use Rattle.live_end.specs.Calls.{IsStill, MakesWords}
use Rattle.live_end.proofs.Going.{makes_same, taken_sends}
use Rattle.live_end.proofs.transmitter.LiveTransmitter.take_there.Goals as goal

pub invariant_of-self : goal.invariant_of-self
invariant_of-self c =
    let v = c.self.inside in
    let (x, k) = c.self.invariant in
    let bytes = take c.take.result (waiting_on c.args.lane v.lanes) in
    (with_taken c.args.lane bytes x, taken_sends v.scheduler v.lanes v.row.items x k c.take.new.self c.args.lane bytes (c.take.ensures.stands (progress_of x) k.stands) c.take.ensures.ended)

pub returns : goal.returns
returns c =
    let v = c.self.inside in
    let filled = state v.scheduler v.lanes v.row.items in
    let bytes = take c.take.result (waiting_on c.args.lane v.lanes) in (
      filled,
      record {
        makes = subst (MakesWords c.args.lane (length c.args.out.now) c.args.self.now) (sym c.self.view_is) (makes_same c.args.lane (length c.args.out.now) c.args.self.now c.fill.new.self c.close.new.self c.fill.ensures.makes c.close.ensures.sends);
        still = λ low.
            let same : length (waiting_on c.args.lane v.lanes) ≡ length (waiting_on c.args.lane c.close.new.self.lanes) = ap (λ (t : State). length (waiting_on c.args.lane t.lanes)) c.self.view_is in
            let kept = c.close.ensures.kept c.args.lane in
            subst IsStill (sym c.self.view_is) (c.close.ensures.still (c.fill.ensures.rests (omega (arith, low, same, kept))));
        stays = λ over. ap (λ (t : State). t.lanes.ended) c.self.view_is ∙ c.close.ensures.stays (c.fill.ensures.stays over);
      },
      record {
        count = c.take.ensures.count;
        copied = c.take.ensures.copied;
        sends = λ x k. taken_sends v.scheduler v.lanes v.row.items x k c.take.new.self c.args.lane bytes (c.take.ensures.stands (progress_of x) k.stands) c.take.ensures.ended;
        ended = c.take.ensures.ended;
      },
    )
