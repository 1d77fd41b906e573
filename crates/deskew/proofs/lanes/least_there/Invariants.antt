-- The least so far, with the lanes that are left, is the least of all.
use Rattle.std.proofs.Common.{◌≡◌, ◌≤◌, min, drop}
use Rattle.deskew.specs.Blocks.{least_there}
use Rattle.deskew.proofs.lanes.least_there.Given as goal

abbrev pub invariant-loop-lane : goal.invariant-loop-lane
invariant-loop-lane l = (min l.least (least_there l.after l.most (drop l.lane-index l.lanes)) ≡ least_there l.after l.most l.lanes) × (l.least ≤ l.most)
