-- The bits of a number in parts, the highest first, and those of its bytes.
use Rattle.std.proofs.Common.{ℕ, zero, suc, ◌≡◌, refl, sym, ap, ◌∙◌, subst, ◌+◌, ◌-◌, ◌*◌, ◌/◌, ◌%◌, ◌^◌, ◌<◌, ◌≤◌, ◌==◌, Bool, true, false, List, [], ◌∷◌, ◌++◌, append-nil, length, length-append, replicate, arith}
use Rattle.std.specs.Int.{bit_at, byte_at, bytes_high_first, to_be_bytes, w64}
use Rattle.std.specs.List.{flat_map}
use Rattle.std.proofs.lemmas.Bool.{eqb-true, eqb-false}
use Rattle.std.proofs.Math.Nat.{div-one, pow-suc}
use Rattle.std.proofs.Math.Pow.{mod-mod-pow}
use Rattle.std.proofs.lemmas.Nat.{field_of, mod_low, pow-add, shr-shr, shr_high}
use Rattle.std.proofs.lemmas.List.Concat.{flat_map-append}
use Rattle.std.proofs.lemmas.Nat.Bits.{bit_at-zero}
use Rattle.lk_base.specs.Checksum.{bits_of, bits_of_bytes, digit}

pub digit_small : (b : Bool) → digit b < 2
digit_small true = omega arith
digit_small false = omega arith

-- the lowest bit as a digit
pub digit_of : (x : ℕ) → digit (x % 2 == 1) ≡ x % 2
digit_of x = elim (x % 2 == 1) as (λ b. (x % 2 == 1) ≡ b → digit b ≡ x % 2) [
  | true ↦ λ e. sym (eqb-true (x % 2) 1 e)
  | false ↦ λ e. let ne : (x % 2 ≡ 1) → ⊥ = eqb-false (x % 2) 1 e in omega arith
] refl

pub digit_back : (b : Bool) → (digit b == 1) ≡ b
digit_back true = refl
digit_back false = refl

pub no_bits : (x : ℕ) → bits_of 0 x ≡ []
unfolding bits_of
no_bits x = refl

pub one_bit : (n x : ℕ) → bits_of (suc n) x ≡ (bit_at x n == 1) ∷ bits_of n x
unfolding bits_of
one_bit n x = refl

-- the highest n bits, and then the lowest m
pub bits-cut : (n m x : ℕ) → bits_of (n + m) x ≡ bits_of n (x / 2 ^ m) ++ bits_of m x
bits-cut zero m x = let e : zero + m ≡ m = omega arith in rw (e, no_bits (x / 2 ^ m)) refl
bits-cut (suc n) m x =
    let e : suc n + m ≡ suc (n + m) = omega arith in
    let f : n + m ≡ m + n = omega arith in
    let g : bit_at x (n + m) ≡ bit_at (x / 2 ^ m) n = ap (bit_at x) f ∙ ap (λ y. y % 2) (sym (shr-shr x m n)) in
    rw (e, one_bit (n + m) x, one_bit n (x / 2 ^ m), g) (ap (λ r. (bit_at (x / 2 ^ m) n == 1) ∷ r) (bits-cut n m x))

-- each of the k lowest bits of a number is that of what is left of it
pub bit_at-mod : (x k n : ℕ) → n < k → bit_at (x % 2 ^ k) n ≡ bit_at x n
bit_at-mod x k n h =
    let j = k - n - 1 in
    let e : j + 1 + n ≡ k = omega arith in
    subst (λ (m : ℕ). bit_at (x % 2 ^ m) n ≡ bit_at x n) e (ap (λ (q : ℕ). q % 2) (field_of x (j + 1) n) ∙ mod-mod-pow (x / 2 ^ n) j 1)

-- bits above the lowest n do not count
pub bits-mod : (n k x : ℕ) → n ≤ k → bits_of n (x % 2 ^ k) ≡ bits_of n x
bits-mod zero k x h = no_bits (x % 2 ^ k) ∙ sym (no_bits x)
bits-mod (suc n) k x h =
    rw (one_bit n (x % 2 ^ k), one_bit n x, bit_at-mod x k n (omega arith)) (ap (λ r. (bit_at x n == 1) ∷ r) (bits-mod n k x (omega arith)))

pub bits-joined : (n m a b : ℕ) → b < 2 ^ m → bits_of (n + m) (a * 2 ^ m + b) ≡ bits_of n a ++ bits_of m b
bits-joined n m a b h =
    bits-cut n m (a * 2 ^ m + b)
    ∙ ap (λ y. bits_of n y ++ bits_of m (a * 2 ^ m + b)) (shr_high a m b h)
    ∙ ap (λ bits. bits_of n a ++ bits) (sym (bits-mod m m (a * 2 ^ m + b) (omega arith)) ∙ ap (bits_of m) (mod_low a m b h))

pub bits-zero : (n : ℕ) → bits_of n 0 ≡ replicate n false
bits-zero zero = no_bits 0
bits-zero (suc n) = rw (one_bit n 0, bit_at-zero n) (ap (λ r. false ∷ r) (bits-zero n))

-- ---- the bytes of a number

pub bits-byte : (bytes : List ℕ) (byte : ℕ) → bits_of_bytes (bytes ++ byte ∷ []) ≡ bits_of_bytes bytes ++ bits_of 8 byte
bits-byte bytes byte = flat_map-append (bits_of 8) bytes (byte ∷ []) ∙ ap (λ (bits : List Bool). bits_of_bytes bytes ++ bits) (append-nil (bits_of 8 byte))

-- eight bytes a word
pub length-words : (words : List ℕ) → length (flat_map (to_be_bytes w64) words) ≡ 8 * length words
length-words [] = refl
length-words (x ∷ rest) =
    let e : length (to_be_bytes w64 x ++ flat_map (to_be_bytes w64) rest) ≡ 8 + length (flat_map (to_be_bytes w64) rest) = length-append (to_be_bytes w64 x) (flat_map (to_be_bytes w64) rest) in
    let more = length-words rest in
    omega arith

pow_bytes : (k : ℕ) → 256 ^ k ≡ 2 ^ (8 * k)
pow_bytes zero = refl
pow_bytes (suc k) =
    let e : 8 * suc k ≡ 8 * k + 8 = omega arith in
    pow-suc 256 k ∙ ap (λ m. m * 256) (pow_bytes k) ∙ sym (pow-add 2 (8 * k) 8) ∙ ap (λ m. 2 ^ m) (sym e)

-- the k lowest bytes of a number, the highest first, have its bits
pub bits_of_bytes_high : (k n : ℕ) → bits_of_bytes (bytes_high_first k n) ≡ bits_of (8 * k) n
bits_of_bytes_high zero n = sym (no_bits n)
bits_of_bytes_high (suc k) n =
    let e : 8 * suc k ≡ 8 + 8 * k = omega arith in
    rw e (ap (λ b. b ++ bits_of_bytes (bytes_high_first k n)) (byte_bits k n) ∙ ap (λ b. bits_of 8 (n / 2 ^ (8 * k)) ++ b) (bits_of_bytes_high k n) ∙ sym (bits-cut 8 (8 * k) n))
  where
    byte_bits : (k n : ℕ) → bits_of 8 (byte_at k n) ≡ bits_of 8 (n / 2 ^ (8 * k))
    byte_bits zero n = bits-mod 8 8 n (omega arith) ∙ ap (bits_of 8) (sym (div-one n))
    byte_bits (suc k) n = bits-mod 8 8 (n / 256 ^ suc k) (omega arith) ∙ ap (λ m. bits_of 8 (n / m)) (pow_bytes (suc k))
