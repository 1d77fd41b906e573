-- The bits of a number in parts: those of a part of a byte, and then others.
use Rattle.std.proofs.Common.{ℕ, zero, suc, ◌≡◌, refl, sym, ap, ◌∙◌, subst, ◌+◌, ◌-◌, ◌*◌, ◌/◌, ◌%◌, ◌^◌, ◌<◌, ◌≤◌, List, [], ◌∷◌, ◌++◌, length, drop, take, get_or, arith, append_assoc, append-nil, bit_and, bit_or, lit≤}
use Rattle.std.specs.Int.{bytes_high_first, to_be_bytes, w64}
use Rattle.std.proofs.Math.Nat.{pow-le-pow_right}
use native.Mathlib.Nat.{mod-eq_of_lt}
use Rattle.std.proofs.lemmas.Nat.{mod_low, mod-pow-add, shl-shr, and_mask, or_shifted, pow_pos}
use Rattle.std.proofs.lemmas.List.{take_more}
use Rattle.lk_base.specs.Checksum.{bits_of, bits_of_bytes}
use Rattle.lk_base.proofs.Bits.{bits-byte, bits-cut, bits-joined, bits-mod, bits_of_bytes_high}

-- a shift by m in k + m bits keeps the lowest k
shifted : (k m x : ℕ) → x * 2 ^ m % 2 ^ (k + m) ≡ x % 2 ^ k * 2 ^ m
shifted k m x =
    let none : x * 2 ^ m + 0 ≡ x * 2 ^ m = omega arith in
    let low : x * 2 ^ m % 2 ^ m ≡ 0 = ap (λ y. y % 2 ^ m) (sym none) ∙ mod_low x m 0 (pow_pos m) in
    let end : x % 2 ^ k * 2 ^ m + 0 ≡ x % 2 ^ k * 2 ^ m = omega arith in
    mod-pow-add (x * 2 ^ m) k m
    ∙ ap (λ y. y % 2 ^ k * 2 ^ m + x * 2 ^ m % 2 ^ m) (shl-shr x m)
    ∙ ap (λ y. x % 2 ^ k * 2 ^ m + y) low
    ∙ end

pushed : (k n m a b : ℕ) → n ≤ k → b < 2 ^ m → bits_of (n + m) (bit_or (a * 2 ^ m % 2 ^ (k + m)) b) ≡ bits_of n a ++ bits_of m b
pushed k n m a b h less =
    ap (λ y. bits_of (n + m) (bit_or y b)) (shifted k m a)
    ∙ ap (bits_of (n + m)) (or_shifted (a % 2 ^ k) m b less)
    ∙ bits-joined n m (a % 2 ^ k) b less
    ∙ ap (λ c. c ++ bits_of m b) (bits-mod n k a h)

-- m bits are put after n others, in 128 bits
pub joined : (n m a b : ℕ) → n + m ≤ 128 → b < 2 ^ m → bits_of (n + m) (bit_or (a * 2 ^ m % 2 ^ 128) b) ≡ bits_of n a ++ bits_of m b
joined n m a b h less =
    let e : 128 - m + m ≡ 128 = omega arith in
    subst (λ (w : ℕ). bits_of (n + m) (bit_or (a * 2 ^ m % 2 ^ w) b) ≡ bits_of n a ++ bits_of m b) e (pushed (128 - m) n m a b (omega arith) less)

-- a mask of ones keeps the lowest bits
pub masked : (x c : ℕ) → c < 128 → bit_and x (1 * 2 ^ c % 2 ^ 128 - 1) ≡ x % 2 ^ c
masked x c h =
    let p : 2 ^ c ≤ 2 ^ 127 = pow-le-pow_right {n = 2} (lit≤ tt) {i = c} {j = 127} (omega arith) in
    let q : 2 ^ 127 < 2 ^ 128 = lit≤ tt in
    let one : 1 * 2 ^ c ≡ 2 ^ c = omega arith in
    let less : 1 * 2 ^ c < 2 ^ 128 = omega (arith, p, q) in
    ap (λ y. bit_and x (y - 1)) (mod-eq_of_lt less ∙ one) ∙ and_mask x c

pub below : (x c : ℕ) → x % 2 ^ c < 2 ^ c
below x c = let p : 0 < 2 ^ c = pow_pos c in omega arith

-- a part of a byte, and then the lowest bits of a number
pub part_with : (n m a b : ℕ) → n < 8 → m ≤ 64 → bits_of (n + m) (bit_or (a * 2 ^ m % 2 ^ 128) (bit_and b (1 * 2 ^ m % 2 ^ 128 - 1))) ≡ bits_of n a ++ bits_of m b
part_with n m a b few most =
    ap (λ y. bits_of (n + m) (bit_or (a * 2 ^ m % 2 ^ 128) y)) (masked b m (omega arith))
    ∙ joined n m a (b % 2 ^ m) (omega arith) (below b m)
    ∙ ap (λ c. bits_of n a ++ c) (bits-mod m m b (omega arith))

pub low_eight : (n x : ℕ) → n < 8 → bits_of n (bit_and x 255) ≡ bits_of n x
low_eight n x h = ap (bits_of n) (and_mask x 8) ∙ bits-mod n 8 x (omega arith)

-- ---- a part of a byte, and then bytes

pub then_none : (n x : ℕ) (bytes : List ℕ) → bits_of (n + 8 * 0) x ≡ bits_of n x ++ bits_of_bytes (take 0 bytes)
then_none n x bytes = let e : n + 8 * 0 ≡ n = omega arith in ap (λ m. bits_of m x) e ∙ sym (append-nil (bits_of n x))

pub then_more : (n i d x number byte : ℕ) (bytes : List ℕ) → n < 8 → length bytes ≤ 8 → i < length bytes → byte ≡ get_or bytes i d → byte < 2 ^ 8 →
    bits_of (n + 8 * i) number ≡ bits_of n x ++ bits_of_bytes (take i bytes) →
    bits_of (n + 8 * (i + 1)) (bit_or (number * 2 ^ 8 % 2 ^ 128) byte) ≡ bits_of n x ++ bits_of_bytes (take (i + 1) bytes)
then_more n i d x number byte bytes few most within is less before =
    let e : n + 8 * (i + 1) ≡ n + 8 * i + 8 = omega arith in
    let more : take (i + 1) bytes ≡ take i bytes ++ byte ∷ [] = take_more bytes i d within ∙ ap (λ b. take i bytes ++ b ∷ []) (sym is) in
    ap (λ m. bits_of m (bit_or (number * 2 ^ 8 % 2 ^ 128) byte)) e
    ∙ joined (n + 8 * i) 8 number byte (omega arith) less
    ∙ ap (λ b. b ++ bits_of 8 byte) before
    ∙ append_assoc (bits_of n x) (bits_of_bytes (take i bytes)) (bits_of 8 byte)
    ∙ ap (λ b. bits_of n x ++ b) (sym (ap bits_of_bytes more ∙ bits-byte (take i bytes) byte))

-- ---- whole bytes, and then a part of one

last_of : (j k n : ℕ) → drop j (bytes_high_first (j + k) n) ≡ bytes_high_first k n
last_of zero k n = let e : zero + k ≡ k = omega arith in rw e refl
last_of (suc j) k n = let e : suc j + k ≡ suc (j + k) = omega arith in rw e (last_of j k n)

last_bytes : (k n : ℕ) → k ≤ 8 → drop (8 - k) (to_be_bytes w64 n) ≡ bytes_high_first k n
last_bytes k n h = let e : 8 - k + k ≡ 8 = omega arith in subst (λ (m : ℕ). drop (8 - k) (bytes_high_first m n) ≡ bytes_high_first k n) e (last_of (8 - k) k n)

pub cut_is : (total k rest x : ℕ) (bytes : List ℕ) → k ≤ 8 → 8 * k + rest ≡ total → bytes ≡ to_be_bytes w64 (bit_and (x / 2 ^ rest) 18446744073709551615) →
    bits_of_bytes (drop (8 - k) bytes) ++ bits_of rest x ≡ bits_of total x
cut_is total k rest x bytes h e are =
    let y = x / 2 ^ rest in
    let number = bit_and y 18446744073709551615 in
    ap (λ b. bits_of_bytes (drop (8 - k) b) ++ bits_of rest x) are
    ∙ ap (λ b. bits_of_bytes b ++ bits_of rest x) (last_bytes k number h)
    ∙ ap (λ b. b ++ bits_of rest x) (bits_of_bytes_high k number ∙ ap (bits_of (8 * k)) (and_mask y 64) ∙ bits-mod (8 * k) 64 y (omega arith))
    ∙ sym (bits-cut (8 * k) rest x)
    ∙ ap (λ m. bits_of m x) e

-- ---- bits, and then a part of a byte

pub given_are : (taken rest available x : ℕ) → taken + rest ≡ available → bits_of taken (x / 2 ^ rest % 2 ^ taken) ++ bits_of rest x ≡ bits_of available x
given_are taken rest available x e =
    ap (λ b. b ++ bits_of rest x) (bits-mod taken taken (x / 2 ^ rest) (omega arith)) ∙ sym (bits-cut taken rest x) ∙ ap (λ m. bits_of m x) e
