-- Each step leaves less room on the first lane.
use Rattle.std.proofs.Common.{◌∙◌, ◌<◌, ap, sym, length, arith, rules}
use Rattle.std.proofs.lemmas.Bool.{false≢true}
use Rattle.live_lanes.specs.Lanes.{has_room, waiting_on}
use Rattle.live_end.specs.States.{State}
use Rattle.live_end.specs.Sending.{progress_of}
use Rattle.live_end.proofs.Going.{first_below, lane_there, lanes_there, makes_more, makes_none, wanted_more, with_room}
use Rattle.live_end.proofs.transmitter.LiveTransmitter.fill.Goals as goal

pub loop-self-init : goal.loop-self-init
loop-self-init c = (c.requires.there, makes_none c.args.lane c.args.count c.args.self.now, λ over. over)

pub loop-self-smaller : goal.loop-self-smaller
loop-self-smaller c =
    let v = c.self.inside in
    let (x, k) = c.self.invariant in
    let goes = c.rests.ensures.goes c.if-rests.false in
    let room = ap (λ (t : State). has_room t.lanes) c.self.view_is ∙ goes.1 in
    let low = first_below v.lanes (progress_of x) k.stands room in
    let some = lanes_there v.lanes (progress_of x) k.stands in
    let many = ap (λ (t : State). length t.lanes.lanes) c.self.view_is in
    let same = ap (λ (t : State). length (waiting_on 0 t.lanes)) c.self.view_is in
    let longer = c.step.ensures.longer 0 (omega (arith, some, many)) in
    omega (arith, low, same, longer)

pub loop-self-preserved : goal.loop-self-preserved
loop-self-preserved c =
    let v = c.self.inside in
    let (there, makes, stays) = c.loop-self.invariant in
    let goes = c.rests.ensures.goes c.if-rests.false in
    let low : length (waiting_on c.args.lane c.loop-self.self.lanes) < c.args.count = search rules in
    let longer = c.step.ensures.longer c.args.lane there in (
      lane_there c.step.new.self.lanes c.args.lane _ longer,
      makes_more c.args.lane c.args.count c.args.self.now c.loop-self.self c.step.new.self makes (λ x k. (wanted_more c.loop-self.self.lanes x c.args.lane c.args.count k.stands goes.0 there low, with_room c.loop-self.self.lanes x k.stands goes.0 goes.1)) c.step.ensures.makes,
      λ over. absurd (false≢true (sym goes.0 ∙ stays over)),
    )

pub returns-then-rests-clause-rests : goal.returns-then-rests-clause-rests
returns-then-rests-clause-rests c low = c.rests.ensures.rests c.if-rests.true

pub step-requires : goal.step-requires
step-requires c = record { goes = c.rests.ensures.goes c.if-rests.false }
