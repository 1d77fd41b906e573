-- One more lane made a framing word.
use Rattle.std.proofs.Common.{◌≡◌, false}
use Rattle.metaframe.specs.Writing.{wants_payload}
use Rattle.live_lanes.specs.Lanes.{MakesFraming}
use Rattle.live_lanes.proofs.FirstDid.{all_did, did_more, did_none, next_has_room, next_is}
use Rattle.live_lanes.proofs.columns.frame_each.Goals as goal

pub loop-i-init : goal.loop-i-init
loop-i-init c = did_none (λ j. MakesFraming) c.args.lanes.now

pub frame-requires-clause-room : goal.frame-requires-clause-room
frame-requires-clause-room c = next_has_room (λ j. MakesFraming) c.loop-i.i c.args.lanes.now c.loop-i.lanes c.index-lanes-i.result c.loop-i-test.true c.loop-i.invariant c.requires.room

pub frame-requires-clause-wants : goal.frame-requires-clause-wants
frame-requires-clause-wants c =
    next_is (λ j. MakesFraming) (λ l. wants_payload l.writer.framing ≡ false) c.loop-i.i c.args.lanes.now c.loop-i.lanes c.index-lanes-i.result c.loop-i-test.true c.loop-i.invariant c.requires.wants

pub loop-i-preserved : goal.loop-i-preserved
loop-i-preserved c = did_more (λ j. MakesFraming) c.loop-i.i c.args.lanes.now c.loop-i.lanes c.index-lanes-i.result c.frame.new.self c.loop-i-test.true c.loop-i.invariant c.frame.ensures

pub returns : goal.returns
returns c = all_did (λ j. MakesFraming) c.loop-i.i c.args.lanes.now c.loop-i.lanes c.loop-i-test.false c.loop-i.invariant
