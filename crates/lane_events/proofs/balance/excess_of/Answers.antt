-- Counting ones over 67 bits counts all of them.
use Rattle.std.proofs.Common.{arith, ◌≡◌}
use Rattle.std.proofs.lemmas.Int.{ints}
use Rattle.std.specs.Int.Count.{ones, ones_in}
use Rattle.lane_model.proofs.Disparities.{ones_in-is, ones_in-le}
use Rattle.lane_events.proofs.balance.excess_of.Goals as goal

pub returns-clause-value : goal.returns-clause-value
returns-clause-value c =
    let e : ones_in 67 c.args.code ≡ ones c.args.code = ones_in-is 67 c.args.code c.requires in
    let l = ones_in-le 67 c.args.code in
    omega (arith, ints, e, l)

pub returns-clause-high : goal.returns-clause-high
returns-clause-high c =
    let e : ones_in 67 c.args.code ≡ ones c.args.code = ones_in-is 67 c.args.code c.requires in
    let l = ones_in-le 67 c.args.code in
    omega (arith, ints, e, l)
