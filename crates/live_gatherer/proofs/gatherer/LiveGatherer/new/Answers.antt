-- Nothing was fed.
use Rattle.live_gatherer.proofs.Feeding.{runs_made}
use Rattle.live_gatherer.proofs.gatherer.LiveGatherer.new.Goals as goal

pub invariant_of-result : goal.invariant_of-result
invariant_of-result c = record {
  runs = ∣ runs_made c.in_ok-taker.taker c.args.link.now c.in_ok-finished.finished.items c.in_ok-fed.fed.items c.lanes-lanes.result c.in_ok-taker.ensures c.lanes-lanes.ensures (c.in_ok-finished.ensures {u = tt}) (c.in_ok-fed.ensures {u = tt}) ∣₁;
}
