-- The last so far, with the lanes that are left, is the last of all.
use Rattle.std.proofs.Common.{◌≡◌, drop}
use Rattle.std.specs.Prelude.{max}
use Rattle.deskew.specs.Awaits.{highest}
use Rattle.deskew.proofs.lanes.highest.Given as goal

abbrev pub invariant-loop-lane : goal.invariant-loop-lane
invariant-loop-lane l = max l.high (highest (drop l.lane-index l.lanes)) ≡ highest l.lanes
