use Rattle.std.proofs.Common.{ℕ, ◌≡◌, ◌<◌, length, get_or}
use Rattle.live_inspector.specs.Lanes.{IsFresh, Lane}
use Rattle.live_inspector.proofs.inspector.fresh_lanes.Given as goal

-- the first lanes are made
abbrev pub invariant-loop-number : goal.invariant-loop-number
invariant-loop-number l = (length l.lanes.items ≡ l.number) × ((i : ℕ) (d : Lane) → i < l.number → IsFresh l.link (get_or l.lanes.items i d))
