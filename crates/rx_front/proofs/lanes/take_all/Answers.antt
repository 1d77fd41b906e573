-- One more lane took a byte.
use Rattle.rx_front.specs.Lanes.{IsTaken}
use Rattle.rx_front.proofs.FirstDid.{did_more, did_none}
use Rattle.rx_front.proofs.Taking.{all_did, next_ready}
use Rattle.rx_front.proofs.lanes.take_all.Goals as goal

pub loop-i-init : goal.loop-i-init
loop-i-init c = did_none (λ j. IsTaken 1) c.args.lanes.now

pub take-requires : goal.take-requires
take-requires c = next_ready (λ j. IsTaken 1) c.loop-i.i c.args.lanes.now c.loop-i.lanes c.index-lanes-i.result c.loop-i-test.true c.loop-i.invariant c.requires

pub loop-i-preserved : goal.loop-i-preserved
loop-i-preserved c = did_more (λ j. IsTaken 1) c.loop-i.i c.args.lanes.now c.loop-i.lanes c.index-lanes-i.result c.take.new.self c.loop-i-test.true c.loop-i.invariant c.take.ensures

pub returns : goal.returns
returns c = all_did (λ j. IsTaken 1) c.loop-i.i c.args.lanes.now c.loop-i.lanes c.loop-i-test.false c.loop-i.invariant
