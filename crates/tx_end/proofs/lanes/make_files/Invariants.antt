use Rattle.std.proofs.Common.{◌≡◌, [], map, replicate}
use Rattle.tx_end.proofs.lanes.make_files.Given as goal

abbrev pub invariant-loop-lane : goal.invariant-loop-lane
invariant-loop-lane l = map (λ file. file.items) l.files.items ≡ replicate l._lane []
