use Rattle.std.proofs.Common.{arith}
use Rattle.std.proofs.lemmas.Nat.{pow_pos}
use Rattle.lane_damage.proofs.Points.{ones-mask, pow-up}
use Rattle.lane_damage.proofs.marks.mask.Goals as goal

pub overflow_sub-result-3 : goal.overflow_sub-result-3
overflow_sub-result-3 c =
    let up = pow-up c.args.low c.args.high c.requires.low in
    rw (ones-mask c.args.low (omega (arith, c.requires.low, c.requires.high)), ones-mask c.args.high c.requires.high) (omega (arith, up))

pub returns : goal.returns
returns c =
    let some = pow_pos c.args.low in
    rw (ones-mask c.args.low (omega (arith, c.requires.low, c.requires.high)), ones-mask c.args.high c.requires.high) (omega (arith, some))
