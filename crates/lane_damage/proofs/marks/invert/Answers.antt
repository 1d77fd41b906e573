use Rattle.std.proofs.Common.{◌∙◌, ◌/◌, ◌%◌, ap, get_or, set, arith}
use Rattle.std.specs.Prelude.{bit_xor}
use Rattle.lane_damage.specs.Bits.{bit_in}
use Rattle.lane_damage.proofs.Points.{inverted, mask-is}
use Rattle.lane_damage.proofs.marks.invert.Goals as goal

pub returns-clause-bits : goal.returns-clause-bits
returns-clause-bits c = λ p.
    let old = c.args.bytes.now in
    let place = c.args.place in
    ap (λ m. bit_in (set old (place / 8) (bit_xor (get_or old (place / 8) 0) m)) p) (mask-is (place % 8) (omega arith)) ∙ inverted old place p c.requires
