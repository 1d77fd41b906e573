-- No bit before the next that is 1.
use Rattle.std.proofs.Common.{arith}
use Rattle.std.proofs.lemmas.Nat.{shr_le}
use Rattle.rx_front.proofs.Covering.{zeros_there}
use Rattle.rx_front.proofs.lanes.zeros_from.Goals as goal

pub returns-clause-zeros : goal.returns-clause-zeros
returns-clause-zeros c = λ j low high.
    let e = c.min.ensures in
    let fits = c.ranges.number.fits in
    let less = shr_le c.args.number c.args.k in
    zeros_there c.args.number c.args.k j (omega (arith, fits, less)) low (omega (arith, e, high))
