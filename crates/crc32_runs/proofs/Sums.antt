-- Sums without carry, in other orders.
use Rattle.std.proofs.Common.{◌≡◌, ℕ, sym, ap, ◌∙◌, bit_xor}
use Rattle.std.specs.Int.Bits.{xor_zero_r, xor_assoc, xor_self}
use Rattle.std.proofs.lemmas.Nat.{xor_comm}

pub xor_four : (a b c d : ℕ) → bit_xor (bit_xor a b) (bit_xor c d) ≡ bit_xor (bit_xor a c) (bit_xor b d)
xor_four a b c d =
    xor_assoc a b (bit_xor c d) ∙ ap (bit_xor a) (sym (xor_assoc b c d) ∙ ap (λ (q : ℕ). bit_xor q d) (xor_comm b c) ∙ xor_assoc c b d) ∙ sym (xor_assoc a c (bit_xor b d))

-- a part goes to the other side
pub xor_over : (a b c : ℕ) → bit_xor a b ≡ c → a ≡ bit_xor c b
xor_over a b c e = sym (xor_zero_r a) ∙ ap (bit_xor a) (sym (xor_self b)) ∙ sym (xor_assoc a b b) ∙ ap (λ (q : ℕ). bit_xor q b) e

-- five parts are added to a number one by one
pub xor_five : (a e b c d f : ℕ) → bit_xor a (bit_xor (bit_xor (bit_xor (bit_xor e b) c) d) f) ≡ bit_xor (bit_xor (bit_xor (bit_xor (bit_xor a e) b) c) d) f
xor_five a e b c d f =
    sym (xor_assoc a (bit_xor (bit_xor (bit_xor e b) c) d) f)
    ∙ ap (λ (q : ℕ). bit_xor q f) (sym (xor_assoc a (bit_xor (bit_xor e b) c) d)
    ∙ ap (λ (q : ℕ). bit_xor q d) (sym (xor_assoc a (bit_xor e b) c)
    ∙ ap (λ (q : ℕ). bit_xor q c) (sym (xor_assoc a e b))))

-- seven parts
pub xor_seven : (a e b c d f g h : ℕ) → bit_xor a (bit_xor (bit_xor (bit_xor (bit_xor (bit_xor (bit_xor e b) c) d) f) g) h) ≡ bit_xor (bit_xor (bit_xor (bit_xor (bit_xor (bit_xor (bit_xor a e) b) c) d) f) g) h
xor_seven a e b c d f g h =
    sym (xor_assoc a (bit_xor (bit_xor (bit_xor (bit_xor (bit_xor e b) c) d) f) g) h)
    ∙ ap (λ (q : ℕ). bit_xor q h) (sym (xor_assoc a (bit_xor (bit_xor (bit_xor (bit_xor e b) c) d) f) g) ∙ ap (λ (q : ℕ). bit_xor q g) (xor_five a e b c d f))
