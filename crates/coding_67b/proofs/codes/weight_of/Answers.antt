-- Counting ones over 64 bits counts all of them.
use Rattle.std.proofs.Common.{arith, ◌≡◌}
use Rattle.std.proofs.lemmas.Int.{ints}
use Rattle.std.specs.Int.Count.{ones, ones_in}
use Rattle.lane_model.proofs.Disparities.{ones_in-is, ones_in-le}
use Rattle.coding_67b.proofs.codes.weight_of.Goals as goal

pub returns-clause-value : goal.returns-clause-value
returns-clause-value c =
    let e : ones_in 64 c.args.payload ≡ ones c.args.payload = ones_in-is 64 c.args.payload c.ranges.payload.fits in
    let l = ones_in-le 64 c.args.payload in
    omega (arith, ints, e, l)
