-- The first lanes are made.
use Rattle.std.proofs.Common.{ℕ, ◌≡◌, ◌<◌, length, get_or}
use Rattle.live_lanes.specs.States.{Lane}
use Rattle.live_lanes.specs.Lanes.{IsFresh}
use Rattle.live_lanes.proofs.columns.make_lanes.Given as goal

abbrev pub invariant-loop-number : goal.invariant-loop-number
invariant-loop-number l = (length l.lanes.items ≡ l.number) × ((i : ℕ) (d : Lane) → i < l.number → IsFresh l.link i (get_or l.lanes.items i d))
