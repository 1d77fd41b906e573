use Rattle.std.proofs.Common.{◌≡◌}
use Rattle.std.specs.Prelude.{replicate}
use Rattle.lane_damage.specs.OnWay.{untouched}
use Rattle.lane_damage.proofs.damage.untouched_lanes.Given as goal

-- so many of them are made
abbrev pub invariant-loop-lane : goal.invariant-loop-lane
invariant-loop-lane l = l.lanes.items ≡ replicate l._lane untouched
