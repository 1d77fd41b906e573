-- The lists of the first lanes.
use Rattle.std.proofs.Common.{◌≡◌, map}
use Rattle.std.specs.List.{range_with_len}
use Rattle.lane_model.specs.Striping.{lane_payload}
use Rattle.lane_striper.proofs.lists.stripe.Given as goal

abbrev pub invariant-loop-lane : goal.invariant-loop-lane
invariant-loop-lane l = map (λ list. list.items) l.lists.items ≡ map (lane_payload l.lanes l.words) (range_with_len 0 l.lane)
