-- One more lane made its last byte.
use Rattle.live_lanes.specs.Lanes.{MakesEnd}
use Rattle.live_lanes.proofs.FirstDid.{all_did, did_more, did_none, next_has_room}
use Rattle.live_lanes.proofs.columns.finish_each.Goals as goal

pub loop-i-init : goal.loop-i-init
loop-i-init c = did_none (λ j. MakesEnd) c.args.lanes.now

pub finish-requires : goal.finish-requires
finish-requires c = next_has_room (λ j. MakesEnd) c.loop-i.i c.args.lanes.now c.loop-i.lanes c.index-lanes-i.result c.loop-i-test.true c.loop-i.invariant c.requires

pub loop-i-preserved : goal.loop-i-preserved
loop-i-preserved c = did_more (λ j. MakesEnd) c.loop-i.i c.args.lanes.now c.loop-i.lanes c.index-lanes-i.result c.finish.new.self c.loop-i-test.true c.loop-i.invariant c.finish.ensures

pub returns : goal.returns
returns c = all_did (λ j. MakesEnd) c.loop-i.i c.args.lanes.now c.loop-i.lanes c.loop-i-test.false c.loop-i.invariant
