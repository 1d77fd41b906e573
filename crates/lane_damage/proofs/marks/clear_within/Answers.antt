use Rattle.std.proofs.Common.{◌≡◌, ◌∙◌, ◌/◌, ◌%◌, ◌^◌, ◌-◌, ◌*◌, ◌+◌, ap, get_or, set, arith, bit_and}
use Rattle.lane_damage.specs.Bits.{bit_in}
use Rattle.lane_damage.proofs.Points.{cleared}
use Rattle.lane_damage.proofs.marks.clear_within.Goals as goal

pub returns-clause-bits : goal.returns-clause-bits
returns-clause-bits c = λ p.
    let old = c.args.bytes.now in
    let from = c.args.from in
    let to = c.args.to in
    let low : 8 - from % 8 - (to - from) ≡ 8 * (from / 8) + 8 - to = omega (arith, c.requires.some, c.requires.one) in
    let keep : c.mask-keep.result ≡ 2 ^ (8 - from % 8) - 2 ^ (8 * (from / 8) + 8 - to) = c.mask-keep.ensures ∙ ap (λ n. 2 ^ (8 - from % 8) - 2 ^ n) low in
    ap (λ m. bit_in (set old (from / 8) (bit_and (get_or old (from / 8) 0) (255 - m))) p) keep ∙ cleared old from to p c.requires.some c.requires.one c.requires.there
