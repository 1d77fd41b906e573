use Rattle.std.proofs.Common.{◌≡◌, ◌+◌, ◌-◌, ◌*◌, ◌≤◌, length, take}
use Rattle.lk_base.specs.Checksum.{bits_of_bytes}
use Rattle.lane_events.specs.Inspection.{Finds}
use Rattle.lane_events.proofs.inspector.LaneInspector.inspect.Given as goal

-- the events of the bytes so far were appended
abbrev pub invariant-loop-at : goal.invariant-loop-at
invariant-loop-at l = record {
  there : l.at ≤ length l.bytes;
  taken : l.self.taken ≡ l.fn.self.taken + 8 * l.at;
  finds : Finds l.fn.self l.self (bits_of_bytes (take l.at l.bytes)) l.fn.found.items l.found.items;
  few : length l.found.items ≤ length l.fn.found.items + 12 * l.at;
}

abbrev pub decreases-loop-at : goal.decreases-loop-at
decreases-loop-at l = length l.bytes - l.at
