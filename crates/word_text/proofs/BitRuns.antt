-- Bits that are taken one at a time, as a number.
use Rattle.std.proofs.Common.{◌≡◌, ◌+◌, ◌*◌, ◌%◌, ◌^◌, ◌<◌, ◌≤◌, ℕ, suc, Bool, true, false, List, [], ◌∷◌, ◌++◌, bit_or, refl, sym, ap, ◌∙◌, append_assoc, arith}
use Rattle.std.proofs.lemmas.Nat.{or_shifted}
use Rattle.std.proofs.Math.Nat.{pow-le-pow_right, two-pow-succ}
use mir.Val.{bool_byte}
use Rattle.lk_base.specs.Checksum.{bits_of, digit}
use Rattle.lk_base.proofs.Bits.{bits-joined}

one-bit : (b : Bool) → bits_of 1 (digit b) ≡ b ∷ []
unfolding bits_of
one-bit true = refl
one-bit false = refl

low-digit : (b : Bool) → digit b < 2 ^ 1
low-digit true = omega arith
low-digit false = omega arith

byte : (bits : ℕ) (b : Bool) → bit_or (bits * 2 % 2 ^ 128) (bool_byte b) ≡ bit_or (bits * 2 % 2 ^ 128) (digit b)
byte bits true = refl
byte bits false = refl

joined : (count bits d : ℕ) → count < 67 → bits < 2 ^ count → d < 2 ^ 1 → bit_or (bits * 2 % 2 ^ 128) d ≡ bits * 2 ^ 1 + d
joined count bits d h k l =
    let pow : 2 ^ count ≤ 2 ^ 67 = pow-le-pow_right {n = 2} (omega arith) {i = count} {j = 67} (omega arith) in
    let same : bits * 2 % 2 ^ 128 ≡ bits * 2 ^ 1 = omega (arith, pow, k) in
    ap (λ (x : ℕ). bit_or x d) same ∙ or_shifted bits 1 d l

-- the number with one bit more
pub shifted-in : (count bits : ℕ) (b : Bool) → count < 67 → bits < 2 ^ count → bit_or (bits * 2 % 2 ^ 128) (bool_byte b) ≡ bits * 2 ^ 1 + digit b
shifted-in count bits b h k = byte bits b ∙ joined count bits (digit b) h k (low-digit b)

pub below-more : (count bits new : ℕ) (b : Bool) → bits < 2 ^ count → new ≡ bits * 2 ^ 1 + digit b → new < 2 ^ (count + 1)
below-more count bits new b k e = let low = low-digit b in let one : count + 1 ≡ suc count = omega arith in let double : 2 ^ (count + 1) ≡ 2 ^ count + 2 ^ count = ap (λ (n : ℕ). 2 ^ n) one ∙ two-pow-succ count in omega (arith, e, low, double, k)

pub bits-more : (count bits new : ℕ) (b : Bool) → new ≡ bits * 2 ^ 1 + digit b → bits_of (count + 1) new ≡ bits_of count bits ++ b ∷ []
bits-more count bits new b e =
    ap (bits_of (count + 1)) e ∙ bits-joined count 1 bits (digit b) (low-digit b) ∙ ap (λ (l : List Bool). bits_of count bits ++ l) (one-bit b)

pub first-more : (first reader after : List Bool) (count bits new : ℕ) (b : Bool) → new ≡ bits * 2 ^ 1 + digit b → first ≡ bits_of count bits ++ reader → reader ≡ b ∷ after → first ≡ bits_of (count + 1) new ++ after
first-more first reader after count bits new b e f g =
    f ∙ ap (λ (r : List Bool). bits_of count bits ++ r) g ∙ sym (append_assoc (bits_of count bits) (b ∷ []) after)
    ∙ ap (λ (l : List Bool). l ++ after) (sym (bits-more count bits new b e))
