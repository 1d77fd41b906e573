-- The least of none so far.
use Rattle.std.proofs.Common.{arith}
use Rattle.std.proofs.Math.Nat.{min-eq_right}
use Rattle.deskew.proofs.Rows.{least_low}
use Rattle.deskew.proofs.lanes.least_there.Goals as goal

pub loop-lane-init : goal.loop-lane-init
loop-lane-init c = (min-eq_right (least_low c.args.after c.args.most c.args.lanes.now), omega arith)
