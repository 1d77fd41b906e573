use Rattle.std.proofs.Common.{ℕ, ◌≡◌, ◌<◌, [], length, get_or}
use Rattle.tx_end.specs.declared.lane_writer.LaneWriter.{LaneWriter}
use Rattle.tx_end.specs.Lanes.{Carries}
use Rattle.tx_end.proofs.lane_writer.make_lanes.Given as goal

-- the first lanes are made
abbrev pub invariant-loop-number : goal.invariant-loop-number
invariant-loop-number l = (length l.lanes.items ≡ l.number) × ((i : ℕ) (d : LaneWriter) → i < l.number → Carries (get_or l.lanes.items i d) l.link i [] 0 [] × (length (get_or l.lanes.items i d).bits ≡ 0))
