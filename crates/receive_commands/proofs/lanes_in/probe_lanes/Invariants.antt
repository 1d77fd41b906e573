use Rattle.std.proofs.Common.{◌≡◌, map, IfSome, string_bytes}
use Rattle.receive_commands.proofs.LanesThere.{Led}
use Rattle.receive_commands.proofs.lanes_in.probe_lanes.Given as goal

-- the first lanes are there
abbrev pub invariant-loop-name : goal.invariant-loop-name
invariant-loop-name g l = record {
  same_faults : g.S.Store.faults l.store ≡ g.S.Store.faults l.fn.store;
  same_files : g.S.Store.files l.store ≡ g.S.Store.files l.fn.store;
  led : IfSome (g.S.Store.files l.fn.store) (Led (map string_bytes l.names) l.name-index);
}
