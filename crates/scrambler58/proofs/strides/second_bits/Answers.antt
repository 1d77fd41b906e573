-- The state after 39 bits is its last 19 bits and these; so its next 25 bits are made of both.
use Rattle.std.proofs.Common.{◌≡◌, ℕ, ap, ◌∙◌, ◌-◌, ◌*◌, ◌/◌, ◌%◌, ◌^◌, arith, bit_and, bit_or, bit_xor}
use Rattle.std.proofs.lemmas.Nat.{and_mask, shl_whole, mod_below, pow_pos}
use Rattle.scrambler58.specs.Strides.{bits_after, state_after}
use Rattle.scrambler58.proofs.Whole.{bits_after-below, later_bits}
use Rattle.scrambler58.proofs.strides.second_bits.Goals as goal

value : (s first : ℕ) → first ≡ bits_after s 39 →
    bit_xor (first / 2 ^ 14) (bit_or (bit_and s (2 ^ 19 - 1) * 2 ^ 6 % 2 ^ 64) (first / 2 ^ 33)) ≡ bits_after (state_after s 39) 25
value s first e =
    ap (λ x. bit_xor (first / 2 ^ 14) (bit_or (x * 2 ^ 6 % 2 ^ 64) (first / 2 ^ 33))) (and_mask s 19)
    ∙ ap (λ x. bit_xor (first / 2 ^ 14) (bit_or x (first / 2 ^ 33))) (shl_whole (s % 2 ^ 19) 19 6 64 (mod_below s (2 ^ 19) (pow_pos 19)) (omega arith))
    ∙ ap (λ f. bit_xor (f / 2 ^ 14) (bit_or (s % 2 ^ 19 * 2 ^ 6) (f / 2 ^ 33))) e
    ∙ later_bits s

pub returns-clause-value : goal.returns-clause-value
returns-clause-value c = value c.args.state c.args.first c.requires

pub returns-clause-bound : goal.returns-clause-bound
returns-clause-bound c = rw (value c.args.state c.args.first c.requires) (bits_after-below (state_after c.args.state 39) 25)
