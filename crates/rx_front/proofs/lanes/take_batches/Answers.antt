-- One more lane takes this many bytes.
use Rattle.std.proofs.Common.{ap, arith}
use Rattle.lk_base.specs.Link.{Settings}
use Rattle.rx_front.proofs.Batching.{AsColumn, took_all, took_none, took_one}
use Rattle.rx_front.proofs.Taking.{next_there}
use Rattle.rx_front.proofs.lanes.take_batches.Goals as goal

pub take_batch-requires-clause-there : goal.take_batch-requires-clause-there
take_batch-requires-clause-there c = next_there (AsColumn c.args.count c.loop-i.invariant.columns) c.args.count c.loop-i.i c.args.lanes.now c.loop-i.lanes c.index-lanes-i.result c.loop-i-test.true c.loop-i.invariant.batches c.requires.there

pub take_batch-requires-clause-lane : goal.take_batch-requires-clause-lane
take_batch-requires-clause-lane c =
    let s = ap (λ (z : Settings). z.lanes) c.loop-i.invariant.settings in
    let n = c.requires.count in
    let t = c.loop-i-test.true in
    omega (arith, s, n, t)

pub loop-i-init : goal.loop-i-init
loop-i-init c = took_none c.args.count c.args.lanes.now c.args.deskew.now

pub loop-i-preserved : goal.loop-i-preserved
loop-i-preserved c =
    took_one c.args.count c.loop-i.i c.args.lanes.now c.loop-i.lanes c.index-lanes-i.result c.take_batch.new.self c.args.deskew.now c.loop-i.deskew c.take_batch.new.deskew c.loop-i-test.true c.loop-i.invariant c.take_batch.ensures

pub returns : goal.returns
returns c = took_all c.args.count c.loop-i.i c.args.lanes.now c.loop-i.lanes c.args.deskew.now c.loop-i.deskew c.loop-i-test.false c.loop-i.invariant
