use Rattle.std.proofs.Common.{◌≡◌, map, string_bytes}
use Rattle.run_shell.specs.Names.{lane_names}
use Rattle.run_shell.proofs.names.lane_names.Given as goal

abbrev pub invariant-loop-lane : goal.invariant-loop-lane
invariant-loop-lane l = map string_bytes l.names.items ≡ lane_names l.prefix l.lane
