use Rattle.std.proofs.Common.{◌≡◌, ◌≤◌, ℕ, All, map, length, IfSome, string_bytes, Vec, Global}
use Rattle.damage_commands.specs.PlanLanes.{whole_lane_limit}
use Rattle.damage_commands.proofs.LanesRead.{Led, items_of}
use Rattle.damage_commands.proofs.inputs.read_lanes.Given as goal

-- the first lanes were read
abbrev pub invariant-loop-name : goal.invariant-loop-name
invariant-loop-name g l = record {
  same_faults : g.S.Store.faults l.store ≡ g.S.Store.faults l.fn.store;
  same_files : g.S.Store.files l.store ≡ g.S.Store.files l.fn.store;
  many : length l.lanes.items ≡ l.name-index;
  few : All (λ (v : Vec ℕ Global). length v.items ≤ whole_lane_limit) l.lanes.items;
  led : IfSome (g.S.Store.files l.fn.store) (Led (map string_bytes l.names) l.name-index (items_of l.lanes.items));
}
