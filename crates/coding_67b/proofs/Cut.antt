-- The bits of a number in two parts.
use Rattle.std.proofs.Common.{ℕ, zero, suc, ◌≡◌, sym, ap, ◌∙◌, ◌+◌, ◌-◌, ◌*◌, ◌/◌, ◌%◌, ◌^◌, ◌<◌, ◌≤◌, ◌==◌, false, [], ◌∷◌, ◌++◌, length, replicate, arith, bit_and, bit_or}
use Rattle.std.specs.Int.{bit_at}
use Rattle.std.proofs.lemmas.Nat.{mod_low, mod-pow-add, shl-shr, and_mask, or_shifted, pow_pos}
use Rattle.lk_base.specs.Checksum.{bits_of}
use Rattle.lk_base.proofs.Bits.{bits-cut, bits-joined, bits-mod, bits-zero, one_bit}
use Rattle.lane_model.proofs.Numbers.{length-bits_of}

-- the highest bit and the others, as a count that goes down takes them
pub first_bit : (n x : ℕ) → 0 < n → bits_of n x ≡ (bit_at x (n - 1) == 1) ∷ bits_of (n - 1) x
first_bit zero x h = absurd (omega arith)
first_bit (suc n) x h = let e : suc n - 1 ≡ n = omega arith in rw e (one_bit n x)

-- ---- the bits that wait

-- a shift by 67 in 128 bits keeps the lowest 61
shifted : (x : ℕ) → x * 2 ^ 67 % 2 ^ 128 ≡ x % 2 ^ 61 * 2 ^ 67
shifted x =
    let none : x * 2 ^ 67 + 0 ≡ x * 2 ^ 67 = omega arith in
    let low : x * 2 ^ 67 % 2 ^ 67 ≡ 0 = ap (λ y. y % 2 ^ 67) (sym none) ∙ mod_low x 67 0 (omega arith) in
    let end : x % 2 ^ 61 * 2 ^ 67 + 0 ≡ x % 2 ^ 61 * 2 ^ 67 = omega arith in
    mod-pow-add (x * 2 ^ 67) 61 67
    ∙ ap (λ y. y % 2 ^ 61 * 2 ^ 67 + x * 2 ^ 67 % 2 ^ 67) (shl-shr x 67)
    ∙ ap (λ y. x % 2 ^ 61 * 2 ^ 67 + y) low
    ∙ end

pub pushed : (count bits code : ℕ) → count < 61 → code < 2 ^ 67 → bits_of (count + 67) (bit_or (bits * 2 ^ 67 % 2 ^ 128) code) ≡ bits_of count bits ++ bits_of 67 code
pushed count bits code h k =
    ap (λ y. bits_of (count + 67) (bit_or y code)) (shifted bits)
    ∙ ap (bits_of (count + 67)) (or_shifted (bits % 2 ^ 61) 67 code k)
    ∙ bits-joined count 67 (bits % 2 ^ 61) code k
    ∙ ap (λ b. b ++ bits_of 67 code) (bits-mod count 61 bits (omega arith))

pub taken : (count bits : ℕ) → 8 ≤ count → bits_of count bits ≡ bits_of 8 (bit_and (bits / 2 ^ (count - 8)) 255) ++ bits_of (count - 8) bits
taken count bits h =
    let e : count ≡ 8 + (count - 8) = omega arith in
    ap (λ n. bits_of n bits) e
    ∙ bits-cut 8 (count - 8) bits
    ∙ ap (λ b. b ++ bits_of (count - 8) bits) (sym (ap (bits_of 8) (and_mask (bits / 2 ^ (count - 8)) 8) ∙ bits-mod 8 8 (bits / 2 ^ (count - 8)) (omega arith)))

pub taken_64 : (count bits : ℕ) → 64 ≤ count → bits_of count bits ≡ bits_of 64 (bit_and (bits / 2 ^ (count - 64)) 18446744073709551615) ++ bits_of (count - 64) bits
taken_64 count bits h =
    let e : count ≡ 64 + (count - 64) = omega arith in
    ap (λ n. bits_of n bits) e
    ∙ bits-cut 64 (count - 64) bits
    ∙ ap (λ b. b ++ bits_of (count - 64) bits) (sym (ap (bits_of 64) (and_mask (bits / 2 ^ (count - 64)) 64) ∙ bits-mod 64 64 (bits / 2 ^ (count - 64)) (omega arith)))

pub padded : (count bits : ℕ) → count < 8 → bits_of 8 (bit_and (bits * 2 ^ (8 - count) % 2 ^ 128) 255) ≡ bits_of count bits ++ replicate (8 - length (bits_of count bits)) false
padded count bits h =
    let y = bits * 2 ^ (8 - count) in
    let none : bits * 2 ^ (8 - count) ≡ bits * 2 ^ (8 - count) + 0 = omega arith in
    let e : 8 ≡ count + (8 - count) = omega arith in
    let low : 0 < 2 ^ (8 - count) = pow_pos (8 - count) in
    ap (bits_of 8) (and_mask (bits * 2 ^ (8 - count) % 2 ^ 128) 8)
    ∙ bits-mod 8 8 (bits * 2 ^ (8 - count) % 2 ^ 128) (omega arith)
    ∙ bits-mod 8 128 (bits * 2 ^ (8 - count)) (omega arith)
    ∙ ap (bits_of 8) none
    ∙ ap (λ n. bits_of n (bits * 2 ^ (8 - count) + 0)) e
    ∙ bits-joined count (8 - count) bits 0 low
    ∙ ap (λ b. bits_of count bits ++ b) (bits-zero (8 - count) ∙ ap (λ n. replicate (8 - n) false) (sym (length-bits_of count bits)))

-- ---- whether bits wait

pub empty_is : (count bits : ℕ) → bits_of count bits ≡ [] → count ≡ 0
empty_is count bits e = sym (length-bits_of count bits) ∙ ap length e
