-- The lane at its place.
use Rattle.std.proofs.Common.{◌*◌, sym, subst}
use Rattle.lane_lock.specs.Standing.{IsState}
use Rattle.event_model.specs.Fed.{first_bits}
use Rattle.rx_front.specs.States.{Lane}
use Rattle.rx_front.specs.Lanes.{LaneStands}
use Rattle.rx_front.proofs.Places.{holds_at}
use Rattle.rx_front.proofs.lanes.state_at.Goals as goal

pub returns : goal.returns
returns c = holds_at c.args.lane c.args.lanes.now c.index-lanes-lane.result (λ s rounds fed. IsState s (first_bits (8 * rounds) fed) c.state.result) c.requires
    (λ s rounds fed column st. c.state.ensures s rounds fed column (subst (λ (v : Lane). LaneStands v s rounds fed column) (sym c.index-lanes-lane.is) st))
