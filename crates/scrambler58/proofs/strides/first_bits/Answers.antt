-- A stride of 39 bits.
use Rattle.std.proofs.Common.{◌≡◌, ap, ◌∙◌, sym, ◌/◌, ◌%◌, ◌^◌, arith, bit_xor}
use Rattle.std.proofs.lemmas.Nat.{and_mask}
use Rattle.scrambler58.proofs.Whole.{next}
use Rattle.scrambler58.proofs.strides.first_bits.Goals as goal

pub returns-clause-value : goal.returns-clause-value
returns-clause-value c =
    let e : c.args.state / 2 ^ 0 ≡ c.args.state = omega arith in
    and_mask (bit_xor c.args.state (c.args.state / 2 ^ 19)) 39
    ∙ ap (λ x. bit_xor x (c.args.state / 2 ^ 19) % 2 ^ 39) (sym e)
    ∙ next c.args.state 39 (omega arith)
