-- Lanes before their first words.
use Rattle.std.proofs.Common.{refl}
use Rattle.live_lanes.specs.Standing.{begun}
use Rattle.live_lanes.proofs.Stepping.{fresh_stands}
use Rattle.live_lanes.proofs.live.LiveLanes.new.Goals as goal

pub invariant_of-result : goal.invariant_of-result
invariant_of-result c =
    let made = c.in_ok-lanes.ensures {u = tt} in
    (begun c.args.link.now, fresh_stands c.args.link.now c.in_ok-lanes.lanes.items c.keeps_limits.ensures made.count made.made)

pub returns : goal.returns
returns c =
    let made = c.in_ok-lanes.ensures {u = tt} in
    (fresh_stands c.args.link.now c.in_ok-lanes.lanes.items c.keeps_limits.ensures made.count made.made, refl)
