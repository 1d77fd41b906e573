-- Counting bits that differ.
use Rattle.std.proofs.Common.{ℕ, zero, suc, ◌≡◌, refl, sym, ap, ap₂, ◌∙◌, ◌+◌, ◌*◌, ◌%◌, ◌^◌, ◌<◌, ◌≤◌, ◌==◌, Bool, true, false, List, [], ◌∷◌, ◌++◌, length, take, drop, get_or, arith, bit_xor}
use Rattle.std.specs.Int.{bit_at}
use Rattle.std.specs.Int.Count.{ones, ones_in, ones_cat}
use Rattle.std.proofs.lemmas.Nat.{mod-pow-add, mod_below, pow_pos}
use Rattle.std.proofs.lemmas.Nat.Bits.{bit_at_xor, bit_at-lt}
use Rattle.std.proofs.lemmas.List.{drop-drop, length-take-le, take_more}
use Rattle.lk_base.specs.Checksum.{bits_of, bits_of_bytes, differ, digit}
use Rattle.lk_base.proofs.Bits.{bits-byte, no_bits, one_bit}
use Rattle.lane_model.proofs.FilesHold.{length-flat_map_bits}
use Rattle.lane_model.proofs.Numbers.{length-bits_of}
use Rattle.damage_commands.specs.Struck.{differing}

-- the bits of one list after those of another are compared with what is left
pub differing_append : (bits others more : List Bool) → differing bits (others ++ more) ≡ differing bits others + differing (drop (length others) bits) more
unfolding differing
differing_append [] [] more = refl
differing_append [] (c ∷ others) more = refl
differing_append (b ∷ bits) [] more = omega arith
differing_append (b ∷ bits) (c ∷ others) more = let e = differing_append bits others more in omega (arith, e)

-- as many bits are compared as there are others
pub differing_take : (bits others : List Bool) (n : ℕ) → length others ≤ n → differing (take n bits) others ≡ differing bits others
unfolding differing
differing_take [] others zero h = refl
differing_take [] others (suc n) h = refl
differing_take (b ∷ bits) [] zero h = refl
differing_take (b ∷ bits) (c ∷ others) zero h = absurd (omega arith)
differing_take (b ∷ bits) [] (suc n) h = refl
differing_take (b ∷ bits) (c ∷ others) (suc n) h = ap (λ k. digit (differ b c) + k) (differing_take bits others n (omega arith))

digit_low : (x : Bool) → digit x ≤ 1
digit_low true = omega arith
digit_low false = omega arith

pub differing_few : (bits others : List Bool) → differing bits others ≤ length others
unfolding differing
differing_few [] others = omega arith
differing_few (b ∷ bits) [] = omega arith
differing_few (b ∷ bits) (c ∷ others) = let k = differing_few bits others in let l = digit_low (differ b c) in omega (arith, k, l)

-- ---- of two numbers

one_differs : (x y : ℕ) → x < 2 → y < 2 → digit (differ (x == 1) (y == 1)) ≡ (x + y) % 2
one_differs zero zero h k = refl
one_differs zero (suc zero) h k = refl
one_differs (suc zero) zero h k = refl
one_differs (suc zero) (suc zero) h k = refl
one_differs (suc (suc x)) y h k = absurd (omega arith)
one_differs zero (suc (suc y)) h k = absurd (omega arith)
one_differs (suc zero) (suc (suc y)) h k = absurd (omega arith)

ones_small : (x : ℕ) → x < 2 → ones x ≡ x
unfolding ones ones_in
ones_small zero h = refl
ones_small (suc zero) h = refl
ones_small (suc (suc x)) h = absurd (omega arith)

ones_more : (k x : ℕ) → ones (x % 2 ^ suc k) ≡ bit_at x k + ones (x % 2 ^ k)
ones_more k x =
    let one : 1 + k ≡ suc k = omega arith in
    let cut : x % 2 ^ suc k ≡ bit_at x k * 2 ^ k + x % 2 ^ k = ap (λ n. x % 2 ^ n) (sym one) ∙ mod-pow-add x 1 k in
    ap ones cut ∙ ones_cat k (bit_at x k) (x % 2 ^ k) (mod_below x (2 ^ k) (pow_pos k)) ∙ ap (λ n. n + ones (x % 2 ^ k)) (ones_small (bit_at x k) (bit_at-lt x k))

ones_none : (x : ℕ) → ones (x % 2 ^ 0) ≡ 0
unfolding ones ones_in
ones_none x = let e : x % 2 ^ 0 ≡ 0 = omega arith in ap ones e

differing_low : (k a b : ℕ) → ones (bit_xor a b % 2 ^ k) ≡ differing (bits_of k a) (bits_of k b)
unfolding differing
differing_low zero a b = ones_none (bit_xor a b) ∙ sym (ap (λ (xs : List Bool). differing xs (bits_of 0 b)) (no_bits a))
differing_low (suc k) a b =
    ones_more k (bit_xor a b)
    ∙ ap₂ (λ (m n : ℕ). m + n) (bit_at_xor a b k ∙ sym (one_differs (bit_at a k) (bit_at b k) (bit_at-lt a k) (bit_at-lt b k))) (differing_low k a b)
    ∙ sym (ap₂ (λ (xs ys : List Bool). differing xs ys) (one_bit k a) (one_bit k b))

pub differing_bytes : (a b : ℕ) → bit_xor a b < 2 ^ 8 → ones (bit_xor a b) ≡ differing (bits_of 8 a) (bits_of 8 b)
differing_bytes a b h = let e : bit_xor a b % 2 ^ 8 ≡ bit_xor a b = omega (arith, h) in ap ones (sym e) ∙ differing_low 8 a b

-- ---- byte after byte

pub one_more : (bits : List Bool) (sent : List ℕ) (skew i byte : ℕ) → i < length sent → bits_of 8 byte ≡ take 8 (drop (skew + 8 * i) bits) →
    differing (drop skew bits) (bits_of_bytes (take (i + 1) sent)) ≡ differing (drop skew bits) (bits_of_bytes (take i sent)) + differing (bits_of 8 byte) (bits_of 8 (get_or sent i 0))
one_more bits sent skew i byte lt there =
    let here = get_or sent i 0 in
    let le : i ≤ length sent = omega arith in
    let size : length (bits_of_bytes (take i sent)) ≡ 8 * i = length-flat_map_bits 8 (take i sent) ∙ ap (λ n. 8 * n) (length-take-le i sent le) in
    let few : length (bits_of 8 here) ≤ 8 = (let l = length-bits_of 8 here in omega (arith, l)) in
    ap (λ (xs : List ℕ). differing (drop skew bits) (bits_of_bytes xs)) (take_more sent i 0 lt)
    ∙ ap (differing (drop skew bits)) (bits-byte (take i sent) here)
    ∙ differing_append (drop skew bits) (bits_of_bytes (take i sent)) (bits_of 8 here)
    ∙ ap (λ n. differing (drop skew bits) (bits_of_bytes (take i sent)) + n)
    (ap (λ n. differing (drop n (drop skew bits)) (bits_of 8 here)) size
    ∙ ap (λ (xs : List Bool). differing xs (bits_of 8 here)) (drop-drop (8 * i) skew bits)
    ∙ sym (differing_take (drop (skew + 8 * i) bits) (bits_of 8 here) 8 few)
    ∙ ap (λ (xs : List Bool). differing xs (bits_of 8 here)) (sym there))

pub none_yet : (bits : List Bool) (sent : List ℕ) → differing bits (bits_of_bytes (take 0 sent)) ≡ 0
unfolding differing
none_yet [] sent = refl
none_yet (b ∷ bits) sent = refl

pub few_yet : (bits : List Bool) (sent : List ℕ) (i : ℕ) → i ≤ length sent → differing bits (bits_of_bytes (take i sent)) ≤ 8 * i
few_yet bits sent i le =
    let few = differing_few bits (bits_of_bytes (take i sent)) in
    let size = length-flat_map_bits 8 (take i sent) in
    let taken = length-take-le i sent le in
    omega (arith, few, size, taken)

pub all_compared : (bits : List Bool) (sent : List ℕ) (n : ℕ) → n ≡ length sent → differing bits (bits_of_bytes (take n sent)) ≡ differing bits (bits_of_bytes sent)
all_compared bits sent n e = ap (λ (xs : List ℕ). differing bits (bits_of_bytes xs)) (whole sent n e)
  where
    whole : (xs : List ℕ) (n : ℕ) → n ≡ length xs → take n xs ≡ xs
    whole [] zero e = refl
    whole [] (suc n) e = refl
    whole (x ∷ xs) zero e = absurd (omega arith)
    whole (x ∷ xs) (suc n) e = ap (λ (ys : List ℕ). x ∷ ys) (whole xs n (omega arith))

pub few_byte : (a b : ℕ) → differing (bits_of 8 a) (bits_of 8 b) ≤ 8
few_byte a b = let few = differing_few (bits_of 8 a) (bits_of 8 b) in let size = length-bits_of 8 b in omega (arith, few, size)
