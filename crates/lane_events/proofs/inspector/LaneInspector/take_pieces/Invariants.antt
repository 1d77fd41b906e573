use Rattle.std.proofs.Common.{◌≡◌, ◌+◌, ◌-◌, ◌*◌, ◌≤◌, [], length, take}
use Rattle.lk_base.specs.Checksum.{bits_of_bytes}
use Rattle.lane_events.specs.Inspection.{GoesOn}
use Rattle.lane_events.proofs.inspector.LaneInspector.take_pieces.Given as goal

-- the bytes so far showed nothing
abbrev pub invariant-loop-at : goal.invariant-loop-at
invariant-loop-at l = record {
  there : l.at ≤ length l.bytes;
  taken : l.self.taken ≡ l.fn.self.taken + 8 * l.at;
  on : GoesOn l.fn.self l.self (bits_of_bytes (take l.at l.bytes)) [];
}

abbrev pub decreases-loop-at : goal.decreases-loop-at
decreases-loop-at l = length l.bytes - l.at
