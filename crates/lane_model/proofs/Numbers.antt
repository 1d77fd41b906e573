-- Bits and numbers are read back from one another.
use Rattle.std.proofs.Common.{ℕ, zero, suc, ◌≡◌, refl, sym, ap, ◌∙◌, ◌+◌, ◌*◌, ◌/◌, ◌%◌, ◌^◌, ◌<◌, ◌==◌, Bool, true, false, List, [], ◌∷◌, ◌++◌, length, reverse, arith, take, get_or, ◌-◌}
use Rattle.std.proofs.Math.Nat.{pow-succ', div-div-eq-div-mul}
use Rattle.std.proofs.Math.Pow.{pow_pos}
use Rattle.std.proofs.lemmas.List.{reverse-append, reverse-reverse, length-reverse}
use Rattle.std.proofs.lemmas.Nat.Bits.{bit_at-zero, bit_at-suc}
use Rattle.std.specs.Int.{bit_at}
use Rattle.lk_base.specs.Checksum.{bits_of, digit}
use Rattle.lk_base.proofs.Bits.{digit_of, digit_small}
use Rattle.lane_model.specs.Bits.{low_bits, low_number, high_number}

pub split : {b : Bool} {P : Type 0} → (b ≡ true → P) → (b ≡ false → P) → P
split {b} {P} t f = elim b as (λ x. (x ≡ true → P) → (x ≡ false → P) → P) [ true ↦ λ t f. t refl | false ↦ λ t f. f refl ] t f

pub length-low_bits : (n x : ℕ) → length (low_bits n x) ≡ n
unfolding low_bits
length-low_bits zero x = refl
length-low_bits (suc n) x = ap suc (length-low_bits n (x / 2))

pub number-low_bits : (n x : ℕ) → x < 2 ^ n → low_number (low_bits n x) ≡ x
unfolding low_bits low_number
number-low_bits zero x h = omega arith
number-low_bits (suc n) x h =
    let p : 2 ^ suc n ≡ 2 * 2 ^ n = pow-succ' 2 n in
    let rest : low_number (low_bits n (x / 2)) ≡ x / 2 = number-low_bits n (x / 2) (omega arith) in
    let d : digit (x % 2 == 1) ≡ x % 2 = digit_of x in
    omega arith

pub get_or-low_bits : (n x i : ℕ) → i < n → digit (get_or (low_bits n x) i false) ≡ bit_at x i
unfolding low_bits
get_or-low_bits zero x i h = absurd (omega arith)
get_or-low_bits (suc n) x zero h = let e : x / 2 ^ 0 ≡ x = omega arith in rw e (digit_of x)
get_or-low_bits (suc n) x (suc i) h =
    let p : 2 ^ suc i ≡ 2 * 2 ^ i = pow-succ' 2 i in
    rw (p, ← div-div-eq-div-mul x 2 (2 ^ i)) (get_or-low_bits n (x / 2) i (omega arith))

-- the highest of the lowest bits stands after the others
low_bits-last : (n x : ℕ) → low_bits (suc n) x ≡ low_bits n x ++ (bit_at x n == 1) ∷ []
unfolding low_bits
low_bits-last zero x = let e : x / 2 ^ 0 ≡ x = omega arith in rw e refl
low_bits-last (suc n) x =
    let p : 2 ^ suc n ≡ 2 * 2 ^ n = pow-succ' 2 n in
    let e : x / 2 ^ suc n ≡ x / 2 / 2 ^ n = ap (λ k. x / k) p ∙ sym (div-div-eq-div-mul x 2 (2 ^ n)) in
    rw e (ap (λ r. (x % 2 == 1) ∷ r) (low_bits-last n (x / 2)))

-- the bits with the highest first are those with bit 0 first, in reverse
pub bits_of-reverse : (n x : ℕ) → bits_of n x ≡ reverse (low_bits n x)
unfolding bits_of low_bits
bits_of-reverse zero x = refl
bits_of-reverse (suc n) x =
    ap (λ r. (bit_at x n == 1) ∷ r) (bits_of-reverse n x)
    ∙ sym (reverse-append (low_bits n x) ((bit_at x n == 1) ∷ []))
    ∙ ap reverse (sym (low_bits-last n x))

pub length-bits_of : (n x : ℕ) → length (bits_of n x) ≡ n
unfolding bits_of
length-bits_of zero x = refl
length-bits_of (suc n) x = ap suc (length-bits_of n x)

pub number-bits_of : (n x : ℕ) → x < 2 ^ n → high_number (bits_of n x) ≡ x
number-bits_of n x h =
    ap high_number (bits_of-reverse n x) ∙ ap low_number (reverse-reverse (low_bits n x)) ∙ number-low_bits n x h

pub below-low_number : (bits : List Bool) → low_number bits < 2 ^ length bits
unfolding low_number
below-low_number [] = omega arith
below-low_number (true ∷ rest) =
    let p : 2 ^ suc (length rest) ≡ 2 * 2 ^ length rest = pow-succ' 2 (length rest) in
    let b : low_number rest < 2 ^ length rest = below-low_number rest in omega arith
below-low_number (false ∷ rest) =
    let p : 2 ^ suc (length rest) ≡ 2 * 2 ^ length rest = pow-succ' 2 (length rest) in
    let b : low_number rest < 2 ^ length rest = below-low_number rest in omega arith

double_half : (d y : ℕ) → d < 2 → ((d + 2 * y) % 2 ≡ d) × ((d + 2 * y) / 2 ≡ y)
double_half d y h = (omega arith, omega arith)

low_bits-cons : (n y : ℕ) (b : Bool) → low_bits (suc n) (digit b + 2 * y) ≡ b ∷ low_bits n y
unfolding low_bits
low_bits-cons n y true = let e = double_half 1 y (omega arith) in rw (e.0, e.1) refl
low_bits-cons n y false = let e = double_half 0 y (omega arith) in rw (e.0, e.1) refl

shift_out : (a n d y : ℕ) → a * 2 ^ suc n + (d + 2 * y) ≡ d + 2 * (a * 2 ^ n + y)
shift_out a n d y = rw (pow-succ' 2 n) (omega arith)

no_bits : (x : ℕ) → low_bits 0 x ≡ []
unfolding low_bits
no_bits x = refl

-- the lowest n bits of a number that has the number of n bits below bit n
pub low_bits-number : (bits : List Bool) (a n : ℕ) → length bits ≡ n → low_bits n (a * 2 ^ n + low_number bits) ≡ bits
unfolding low_number
low_bits-number [] a zero h = no_bits (a * 2 ^ 0 + 0)
low_bits-number [] a (suc n) h = absurd (omega arith)
low_bits-number (b ∷ rest) a zero h = absurd (omega arith)
low_bits-number (b ∷ rest) a (suc n) h =
    let len : length rest ≡ n = omega arith in
    ap (low_bits (suc n)) (shift_out a n (digit b) (low_number rest))
    ∙ low_bits-cons n (a * 2 ^ n + low_number rest) b
    ∙ ap (λ r. b ∷ r) (low_bits-number rest a n len)

pub below-take : (n : ℕ) (bits : List Bool) → low_number (take n bits) < 2 ^ n
unfolding low_number
below-take zero bits = omega arith
below-take (suc n) [] = pow_pos (suc n)
below-take (suc n) (true ∷ rest) = let p : 2 ^ suc n ≡ 2 * 2 ^ n = pow-succ' 2 n in let b : low_number (take n rest) < 2 ^ n = below-take n rest in omega arith
below-take (suc n) (false ∷ rest) = let p : 2 ^ suc n ≡ 2 * 2 ^ n = pow-succ' 2 n in let b : low_number (take n rest) < 2 ^ n = below-take n rest in omega arith

-- bits with the highest first are read back too
pub bits_of-number : (n : ℕ) (bits : List Bool) → length bits ≡ n → bits_of n (high_number bits) ≡ bits
bits_of-number n bits h =
    let e : 0 * 2 ^ n + low_number (reverse bits) ≡ low_number (reverse bits) = omega arith in
    bits_of-reverse n (high_number bits)
    ∙ ap reverse (ap (low_bits n) (sym e) ∙ low_bits-number (reverse bits) 0 n (length-reverse bits ∙ h))
    ∙ reverse-reverse bits

pub below-high_number : (bits : List Bool) (n : ℕ) → length bits ≡ n → high_number bits < 2 ^ n
below-high_number bits n h =
    let l : length (reverse bits) ≡ n = length-reverse bits ∙ h in
    rw l at (below-low_number (reverse bits))

half : (d n : ℕ) → d < 2 → (d + 2 * n) / 2 ≡ n
half d n h = omega arith

-- bit k of a number is the bit at k
pub bit-low_number : (bits : List Bool) (k : ℕ) → bit_at (low_number bits) k ≡ digit (get_or bits k false)
unfolding low_number
bit-low_number [] zero = refl
bit-low_number [] (suc k) = bit_at-zero (suc k)
bit-low_number (b ∷ rest) zero = let h = digit_small b in omega arith
bit-low_number (b ∷ rest) (suc k) =
    bit_at-suc (digit b + 2 * low_number rest) k
    ∙ ap (λ n. bit_at n k) (half (digit b) (low_number rest) (digit_small b))
    ∙ bit-low_number rest k
