-- The bits of bytes by their places.
use Rattle.std.proofs.Common.{ℕ, zero, suc, ◌≡◌, ◌≢◌, refl, sym, ap, ◌∙◌, ◌+◌, ◌-◌, ◌*◌, ◌/◌, ◌%◌, ◌^◌, ◌<◌, ◌≤◌, true, false, cond, Bool, List, [], ◌∷◌, ◌++◌, length, get_or, set, arith, subst, bit_and}
use Rattle.std.specs.Prelude.{◌==◌, ◌&&◌, not, nat_le, nat_lt, min, bit_xor}
use Rattle.std.specs.Int.{bit_at}
use Rattle.std.proofs.lemmas.Bool.{ltb-true, ltb-false, leb-true, leb-false, eqb-true, eqb-false}
use Rattle.std.proofs.lemmas.List.{get_or_append_left, get_or-append_right, get_or-set_same, get_or-set_other}
use Rattle.std.proofs.lemmas.Nat.Bits.{bit_at-zero, bit_at_xor, bit_at-pow_same, bit_at-pow_other, bit_at-lt, bit_at_and, bit_at_not, bit_at_mask_inside, bit_at_mask_below, bit_at_mask_above}
use Rattle.std.proofs.lemmas.Nat.{pow_pos}
use Rattle.std.specs.Int.{w8}
use Rattle.std.proofs.Math.Nat.{pow-le-pow_right}
use Rattle.lk_base.specs.Checksum.{bits_of, bits_of_bytes}
use Rattle.lane_model.proofs.Numbers.{length-bits_of}
use Rattle.lk_base.proofs.Bits.{one_bit}
use Rattle.lane_damage.specs.Bits.{bit_in}

get-bits : (n x i : ℕ) → i < n → get_or (bits_of n x) i false ≡ (bit_at x (n - 1 - i) == 1)
get-bits zero x i h = absurd (omega arith)
get-bits (suc n) x zero h = let e : suc n - 1 - 0 ≡ n = omega arith in rw (one_bit n x, e) refl
get-bits (suc n) x (suc i) h = let e : suc n - 1 - suc i ≡ n - 1 - i = omega arith in rw (one_bit n x, e) (get-bits n x i (omega (arith, h)))

-- the bit at a place is one of the byte's
pub bit-of : (bytes : List ℕ) (p : ℕ) → bit_in bytes p ≡ (bit_at (get_or bytes (p / 8) 0) (7 - p % 8) == 1)
bit-of [] p = rw (bit_at-zero (7 - p % 8)) refl
bit-of (b ∷ bs) p = by (nat_lt p 8) refl (bit-of bs (p - 8))
  where
    rest : List Bool
    rest = bits_of_bytes bs

    by : (t : Bool) → nat_lt p 8 ≡ t → bit_in bs (p - 8) ≡ (bit_at (get_or bs ((p - 8) / 8) 0) (7 - (p - 8) % 8) == 1) → get_or (bits_of 8 b ++ rest) p false ≡ (bit_at (get_or (b ∷ bs) (p / 8) 0) (7 - p % 8) == 1)
    by true t k =
        let lt = ltb-true p 8 t in
        let long = length-bits_of 8 b in
        let q : p / 8 ≡ 0 = omega (arith, lt) in
        let r : 7 - p % 8 ≡ 8 - 1 - p = omega (arith, lt) in
        rw (q, r) (get_or_append_left (bits_of 8 b) rest false p (omega (arith, lt, long)) ∙ get-bits 8 b p lt)
    by false t k =
        let le = ltb-false p 8 t in
        let q : p / 8 ≡ suc ((p - 8) / 8) = omega (arith, le) in
        let r : 7 - p % 8 ≡ 7 - (p - 8) % 8 = omega (arith, le) in
        rw (q, r) (get_or-append_right (bits_of 8 b) rest 8 p false (length-bits_of 8 b) le ∙ k)

turned : (x : ℕ) → x < 2 → ((x + 1) % 2 == 1) ≡ not (x == 1)
turned zero h = refl
turned (suc zero) h = refl
turned (suc (suc x)) h = absurd (omega (arith, h))

kept : (x : ℕ) → x < 2 → ((x + 0) % 2 == 1) ≡ (x == 1)
kept zero h = refl
kept (suc zero) h = refl
kept (suc (suc x)) h = absurd (omega (arith, h))

-- one bit is inverted
pub inverted : (bytes : List ℕ) (q p : ℕ) → q < 8 * length bytes → bit_in (set bytes (q / 8) (bit_xor (get_or bytes (q / 8) 0) (2 ^ (7 - q % 8)))) p ≡ cond (q == p) (not (bit_in bytes p)) (bit_in bytes p)
inverted bytes q p h =
    rw (bit-of (set bytes (q / 8) (bit_xor (get_or bytes (q / 8) 0) (2 ^ (7 - q % 8)))) p, bit-of bytes p) (by (q / 8 == p / 8) (q == p) refl refl)
  where
    old : ℕ
    old = get_or bytes (q / 8) 0

    new : ℕ
    new = bit_xor old (2 ^ (7 - q % 8))

    by : (a b : Bool) → (q / 8 == p / 8) ≡ a → (q == p) ≡ b → (bit_at (get_or (set bytes (q / 8) new) (p / 8) 0) (7 - p % 8) == 1) ≡ cond b (not (bit_at (get_or bytes (p / 8) 0) (7 - p % 8) == 1)) (bit_at (get_or bytes (p / 8) 0) (7 - p % 8) == 1)
    by true true s t =
        let same : q ≡ p = eqb-true q p t in
        subst (λ n. (bit_at (get_or (set bytes (q / 8) new) (n / 8) 0) (7 - n % 8) == 1) ≡ not (bit_at (get_or bytes (n / 8) 0) (7 - n % 8) == 1)) same
        (rw (get_or-set_same bytes (q / 8) new 0 (omega (arith, h)), bit_at_xor old (2 ^ (7 - q % 8)) (7 - q % 8), bit_at-pow_same (7 - q % 8)) (turned (bit_at old (7 - q % 8)) (bit_at-lt old (7 - q % 8))))
    by true false s t =
        let byte : q / 8 ≡ p / 8 = eqb-true (q / 8) (p / 8) s in
        let ne : q ≢ p = eqb-false q p t in
        let other : 7 - p % 8 ≢ 7 - q % 8 = λ e. ne (omega (arith, byte, e)) in
        let read : get_or (set bytes (q / 8) new) (p / 8) 0 ≡ new = subst (λ n. get_or (set bytes (q / 8) new) n 0 ≡ new) byte (get_or-set_same bytes (q / 8) new 0 (omega (arith, h))) in
        let was : get_or bytes (p / 8) 0 ≡ old = ap (λ n. get_or bytes n 0) (sym byte) in
        rw (read, was, bit_at_xor old (2 ^ (7 - q % 8)) (7 - p % 8), bit_at-pow_other (7 - q % 8) (7 - p % 8) other) (kept (bit_at old (7 - p % 8)) (bit_at-lt old (7 - p % 8)))
    by false b s t =
        let ne : q / 8 ≢ p / 8 = eqb-false (q / 8) (p / 8) s in
        let apart : b ≡ false = differ b t in
        rw (apart, get_or-set_other bytes (q / 8) (p / 8) new 0 (λ e. ne (sym e))) refl
      where
        differ : (b : Bool) → (q == p) ≡ b → b ≡ false
        differ false t = refl
        differ true t = absurd (eqb-false (q / 8) (p / 8) s (ap (λ n. n / 8) (eqb-true q p t)))

-- a byte of ones, shifted
pub ones-mask : (n : ℕ) → n ≤ 8 → 255 / 2 ^ (8 - n) ≡ 2 ^ n - 1
ones-mask zero h = refl
ones-mask (suc zero) h = refl
ones-mask (suc (suc zero)) h = refl
ones-mask (suc (suc (suc zero))) h = refl
ones-mask (suc (suc (suc (suc zero)))) h = refl
ones-mask (suc (suc (suc (suc (suc zero))))) h = refl
ones-mask (suc (suc (suc (suc (suc (suc zero)))))) h = refl
ones-mask (suc (suc (suc (suc (suc (suc (suc zero))))))) h = refl
ones-mask (suc (suc (suc (suc (suc (suc (suc (suc zero)))))))) h = refl
ones-mask (suc (suc (suc (suc (suc (suc (suc (suc (suc n))))))))) h = absurd (omega (arith, h))

pub pow-up : (low high : ℕ) → low ≤ high → 2 ^ low ≤ 2 ^ high
pow-up low high h = let two : 0 < 2 = omega arith in pow-le-pow_right two h

pub pow-eight : (n : ℕ) → n ≤ 8 → 2 ^ n ≤ 256
pow-eight n h = pow-up n 8 h

pub mask-fits : (low high : ℕ) → high ≤ 8 → 2 ^ high - 2 ^ low < 256
mask-fits low high h = let a = pow-eight high h in let b = pow_pos low in omega (arith, a, b)

min-none : (x : ℕ) → (min x (1 - 1) == 1) ≡ false
min-none x = let e : min x (1 - 1) ≡ 0 = omega arith in rw e refl

min-all : (x : ℕ) → x < 2 → (min x (1 - 0) == 1) ≡ (x == 1)
min-all x h = let e : min x (1 - 0) ≡ x = omega (arith, h) in rw e refl

-- the bits of one byte from one place up to below another are made 0
pub cleared : (bytes : List ℕ) (from to p : ℕ) → from < to → to ≤ 8 * (from / 8) + 8 → to ≤ 8 * length bytes
    → bit_in (set bytes (from / 8) (bit_and (get_or bytes (from / 8) 0) (255 - (2 ^ (8 - from % 8) - 2 ^ (8 * (from / 8) + 8 - to))))) p ≡ cond (nat_le from p && nat_lt p to) false (bit_in bytes p)
cleared bytes from to p some one there =
    rw (bit-of (set bytes (from / 8) new) p, bit-of bytes p) (by (from / 8 == p / 8) (nat_le from p) (nat_lt p to) refl refl refl)
  where
    low : ℕ
    low = 8 * (from / 8) + 8 - to

    high : ℕ
    high = 8 - from % 8

    mask : ℕ
    mask = 2 ^ high - 2 ^ low

    old : ℕ
    old = get_or bytes (from / 8) 0

    new : ℕ
    new = bit_and old (255 - mask)

    at : (i : ℕ) → i < 8 → bit_at new i ≡ min (bit_at old i) (1 - bit_at mask i)
    at i h = bit_at_and old (255 - mask) i ∙ ap (min (bit_at old i)) (bit_at_not w8 mask i (mask-fits low high (omega arith)) h)

    read : (q : ℕ) → from / 8 ≡ q / 8 → get_or (set bytes (from / 8) new) (q / 8) 0 ≡ new
    read q e = subst (λ n. get_or (set bytes (from / 8) new) n 0 ≡ new) e (get_or-set_same bytes (from / 8) new 0 (omega (arith, some, there)))

    was : (q : ℕ) → from / 8 ≡ q / 8 → get_or bytes (q / 8) 0 ≡ old
    was q e = ap (λ n. get_or bytes n 0) (sym e)

    inside : from / 8 ≡ p / 8 → from ≤ p → p < to → (bit_at (get_or (set bytes (from / 8) new) (p / 8) 0) (7 - p % 8) == 1) ≡ false
    inside e le lt =
        rw (read p e, at (7 - p % 8) (omega arith), bit_at_mask_inside low high (7 - p % 8) (omega (arith, e, le, lt, one)) (omega (arith, e, le, lt, one))) (min-none (bit_at old (7 - p % 8)))

    same : from / 8 ≡ p / 8 → bit_at mask (7 - p % 8) ≡ 0 → (bit_at (get_or (set bytes (from / 8) new) (p / 8) 0) (7 - p % 8) == 1) ≡ (bit_at (get_or bytes (p / 8) 0) (7 - p % 8) == 1)
    same e none =
        rw (read p e, was p e, at (7 - p % 8) (omega arith), none) (min-all (bit_at old (7 - p % 8)) (bit_at-lt old (7 - p % 8)))

    elsewhere : from / 8 ≢ p / 8 → (bit_at (get_or (set bytes (from / 8) new) (p / 8) 0) (7 - p % 8) == 1) ≡ (bit_at (get_or bytes (p / 8) 0) (7 - p % 8) == 1)
    elsewhere ne = rw (get_or-set_other bytes (from / 8) (p / 8) new 0 (λ e. ne (sym e))) refl

    by : (a b c : Bool) → (from / 8 == p / 8) ≡ a → nat_le from p ≡ b → nat_lt p to ≡ c → (bit_at (get_or (set bytes (from / 8) new) (p / 8) 0) (7 - p % 8) == 1) ≡ cond (b && c) false (bit_at (get_or bytes (p / 8) 0) (7 - p % 8) == 1)
    by true true true s t u = inside (eqb-true (from / 8) (p / 8) s) (leb-true from p t) (ltb-true p to u)
    by true true false s t u =
        let e = eqb-true (from / 8) (p / 8) s in
        let past = ltb-false p to u in
        same e (bit_at_mask_below low high (7 - p % 8) (omega (arith, e, past, one, some)))
    by true false c s t u =
        let e = eqb-true (from / 8) (p / 8) s in
        let early = leb-false from p t in
        same e (bit_at_mask_above low high (7 - p % 8) (omega (arith, e, early)))
    by false true true s t u =
        let le = leb-true from p t in
        let lt = ltb-true p to u in
        absurd (eqb-false (from / 8) (p / 8) s (omega (arith, le, lt, one)))
    by false true false s t u = elsewhere (eqb-false (from / 8) (p / 8) s)
    by false false c s t u = elsewhere (eqb-false (from / 8) (p / 8) s)

-- the bit that is shifted down
pub mask-is : (n : ℕ) → n < 8 → 128 / 2 ^ n ≡ 2 ^ (7 - n)
mask-is zero h = refl
mask-is (suc zero) h = refl
mask-is (suc (suc zero)) h = refl
mask-is (suc (suc (suc zero))) h = refl
mask-is (suc (suc (suc (suc zero)))) h = refl
mask-is (suc (suc (suc (suc (suc zero))))) h = refl
mask-is (suc (suc (suc (suc (suc (suc zero)))))) h = refl
mask-is (suc (suc (suc (suc (suc (suc (suc zero))))))) h = refl
mask-is (suc (suc (suc (suc (suc (suc (suc (suc n)))))))) h = absurd (omega (arith, h))
