-- The lanes so far have this many bytes.
use Rattle.std.proofs.Common.{◌≤◌, take, All}
use Rattle.rx_front.specs.Lanes.{HasBytes}
use Rattle.rx_front.proofs.lanes.whole_rounds.Given as goal

abbrev pub invariant-loop-lane : goal.invariant-loop-lane
invariant-loop-lane l = record {
  most : l.count ≤ l.most;
  there : All (HasBytes l.count) (take l.lane-index l.lanes);
}
