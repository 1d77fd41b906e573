-- Strides by shifts, and a word's 64 key bits in two of them.
use Rattle.std.proofs.Common.{ℕ, ◌≡◌, sym, ap, ◌∙◌, ◌+◌, ◌-◌, ◌*◌, ◌/◌, ◌%◌, ◌^◌, ◌<◌, ◌≤◌, Bool, true, false, length, get_or, take, arith, bit_or, bit_xor, inl, inr}
use Rattle.std.specs.Int.{bit_at}
use Rattle.std.proofs.lemmas.Bool.{cases_lt}
use Rattle.std.proofs.lemmas.List.{get_or-take, length-take-le}
use Rattle.std.proofs.lemmas.Nat.{pow_pos, mod_below, or_shifted, xor_mod}
use Rattle.std.proofs.lemmas.Nat.Bits.{bit_at_xor, same_from_bits_below}
use Rattle.lk_base.specs.Checksum.{differ, digit}
use Rattle.lk_base.proofs.Bits.{bit_at-mod}
use Rattle.lane_model.specs.Key.{key_until, start_of, state_before, key_word}
use Rattle.lane_model.specs.KeyLaw.{key_back, key_bit}
use Rattle.lane_model.proofs.Numbers.{below-take, bit-low_number, length-low_bits, low_bits-number}
use Rattle.lane_model.proofs.Keys.{length-key_until, key_until-add, key_until-take}
use Rattle.lane_model.proofs.KeyHolds.{step, later, earlier, back_by, state_before-bit, state_before-below, key_word-bit, key_word-below}
use Rattle.scrambler58.specs.Strides.{bits_after, state_after}
use Rattle.scrambler58.proofs.Joined.{bit_at-shr, bit_at-low, bit_at-high, joined_below}

pub bits_after-below : (s n : ℕ) → bits_after s n < 2 ^ n
unfolding bits_after
bits_after-below s n = below-take n (key_until (start_of s) n)

pub state_after-below : (s n : ℕ) → state_after s n < 2 ^ 58
unfolding state_after
state_after-below s n = below-take 58 (key_until (start_of s) n)

bits_after-bit : (s n i : ℕ) → i < n → bit_at (bits_after s n) i ≡ digit (key_back (start_of s) n i)
unfolding bits_after
bits_after-bit s n i h = bit-low_number (take n (key_until (start_of s) n)) i ∙ ap digit (get_or-take n (key_until (start_of s) n) i false h)

state_after-bit : (s n i : ℕ) → i < 58 → bit_at (state_after s n) i ≡ digit (key_back (start_of s) n i)
unfolding state_after
state_after-bit s n i h = bit-low_number (take 58 (key_until (start_of s) n)) i ∙ ap digit (get_or-take 58 (key_until (start_of s) n) i false h)

digit-differ : (x y : Bool) → digit (differ x y) ≡ (digit x + digit y) % 2
digit-differ true true = omega arith
digit-differ true false = omega arith
digit-differ false true = omega arith
digit-differ false false = omega arith

-- ---- one stride

-- key bit number m, below 39, from the bits of the state
from_state : (s m : ℕ) → m < 39 → digit (key_bit (start_of s) m) ≡ (bit_at s (38 - m) + bit_at s (57 - m)) % 2
from_state s m h =
    let a : digit (key_back (start_of s) m 38) ≡ bit_at s (38 - m) = earlier s m 38 (omega arith) (omega arith) in
    let b : digit (key_back (start_of s) m 57) ≡ bit_at s (57 - m) = earlier s m 57 (omega arith) (omega arith) in
    ap digit (step (start_of s) m)
    ∙ digit-differ (key_back (start_of s) m 38) (key_back (start_of s) m 57)
    ∙ ap (λ x. (x + digit (key_back (start_of s) m 57)) % 2) a
    ∙ ap (λ y. (bit_at s (38 - m) + y) % 2) b

next-bit : (s n i : ℕ) → n ≤ 39 → i < n → bit_at (bit_xor (s / 2 ^ (39 - n)) (s / 2 ^ (58 - n)) % 2 ^ n) i ≡ bit_at (bits_after s n) i
next-bit s n i h k =
    let a : 39 - n + i ≡ 38 - (n - 1 - i) = omega arith in
    let b : 58 - n + i ≡ 57 - (n - 1 - i) = omega arith in
    bit_at-mod (bit_xor (s / 2 ^ (39 - n)) (s / 2 ^ (58 - n))) n i k
    ∙ bit_at_xor (s / 2 ^ (39 - n)) (s / 2 ^ (58 - n)) i
    ∙ ap (λ x. (x + bit_at (s / 2 ^ (58 - n)) i) % 2) (bit_at-shr s (39 - n) i ∙ ap (bit_at s) a)
    ∙ ap (λ y. (bit_at s (38 - (n - 1 - i)) + y) % 2) (bit_at-shr s (58 - n) i ∙ ap (bit_at s) b)
    ∙ sym (from_state s (n - 1 - i) (omega arith))
    ∙ ap digit (sym (later (start_of s) n i k))
    ∙ sym (bits_after-bit s n i k)

pub next : (s n : ℕ) → n ≤ 39 → bit_xor (s / 2 ^ (39 - n)) (s / 2 ^ (58 - n)) % 2 ^ n ≡ bits_after s n
next s n h =
    same_from_bits_below n _ _ (mod_below (bit_xor (s / 2 ^ (39 - n)) (s / 2 ^ (58 - n))) (2 ^ n) (pow_pos n)) (bits_after-below s n)
    (λ i k. next-bit s n i h k)

-- the bits that stay in the state, and the new ones below them
stays : (s n i k : ℕ) → n ≤ 39 → i ≡ n + k → i < 58 → bit_at (s % 2 ^ (58 - n) * 2 ^ n + bits_after s n) i ≡ bit_at (state_after s n) i
stays s n i k h e l =
    let b : n + k - n ≡ k = omega arith in
    rw e
    (bit_at-high (s % 2 ^ (58 - n)) (bits_after s n) n k (bits_after-below s n)
    ∙ bit_at-mod s (58 - n) k (omega arith)
    ∙ ap (bit_at s) (sym b)
    ∙ sym (earlier s n (n + k) (omega arith) (omega arith))
    ∙ sym (state_after-bit s n (n + k) (omega arith)))

comes : (s n i : ℕ) → n ≤ 39 → i < n → bit_at (s % 2 ^ (58 - n) * 2 ^ n + bits_after s n) i ≡ bit_at (state_after s n) i
comes s n i h l =
    bit_at-low (s % 2 ^ (58 - n)) (bits_after s n) n i (bits_after-below s n) l
    ∙ bits_after-bit s n i l
    ∙ sym (state_after-bit s n i (omega arith))

pub moved : (s n : ℕ) → n ≤ 39 → s % 2 ^ (58 - n) * 2 ^ n + bits_after s n ≡ state_after s n
moved s n h =
    same_from_bits_below 58 _ _
    (joined_below (s % 2 ^ (58 - n)) (bits_after s n) (58 - n) n 58 (mod_below s (2 ^ (58 - n)) (pow_pos (58 - n))) (bits_after-below s n) (omega arith))
    (state_after-below s n)
    (λ i k. elim (cases_lt i n) [
      | inl l ↦ comes s n i h l
      | inr l ↦ stays s n i (i - n) h (omega arith) k
    ])

-- ---- two strides

-- the 25 bits after the first 39, from these and the state before
pub later_bits : (s : ℕ) → bit_xor (bits_after s 39 / 2 ^ 14) (bit_or (s % 2 ^ 19 * 2 ^ 6) (bits_after s 39 / 2 ^ 33)) ≡ bits_after (state_after s 39) 25
later_bits s =
    let f = bits_after s 39 in
    let h = s % 2 ^ 19 in
    let below : f < 2 ^ 39 = bits_after-below s 39 in
    let low : f / 2 ^ 33 < 2 ^ 6 = omega arith in
    let small : h < 2 ^ 19 = mod_below s (2 ^ 19) (pow_pos 19) in
    let m : h * 2 ^ 39 + f ≡ state_after s 39 = moved s 39 (omega arith) in
    let a : (h * 2 ^ 39 + f) / 2 ^ 14 % 2 ^ 25 ≡ f / 2 ^ 14 = omega arith in
    let b : (h * 2 ^ 39 + f) / 2 ^ 33 % 2 ^ 25 ≡ h * 2 ^ 6 + f / 2 ^ 33 = omega arith in
    ap (bit_xor (f / 2 ^ 14)) (or_shifted h 6 (f / 2 ^ 33) low)
    ∙ ap (λ x. bit_xor x (h * 2 ^ 6 + f / 2 ^ 33)) (sym a)
    ∙ ap (bit_xor ((h * 2 ^ 39 + f) / 2 ^ 14 % 2 ^ 25)) (sym b)
    ∙ sym (xor_mod ((h * 2 ^ 39 + f) / 2 ^ 14) ((h * 2 ^ 39 + f) / 2 ^ 33) 25)
    ∙ ap (λ x. bit_xor (x / 2 ^ 14) (x / 2 ^ 33) % 2 ^ 25) m
    ∙ next (state_after s 39) 25 (omega arith)

-- the key from the state after some bits is the key after these bits
start-after : (s m : ℕ) → start_of (state_after s m) ≡ take 58 (key_until (start_of s) m)
unfolding state_after
start-after s m =
    let l : length (start_of s) ≡ 58 = length-low_bits 58 s in
    let n : length (key_until (start_of s) m) ≡ m + length (start_of s) = length-key_until (start_of s) m in
    let e : state_after s m ≡ 0 * 2 ^ 58 + state_after s m = omega arith in
    ap start_of e ∙ low_bits-number (take 58 (key_until (start_of s) m)) 0 58 (length-take-le 58 (key_until (start_of s) m) (omega arith))

back_through : (s m n i : ℕ) → i < n + 58 → key_back (start_of (state_after s m)) n i ≡ key_back (start_of s) (n + m) i
back_through s m n i h =
    let l : length (start_of s) ≡ 58 = length-low_bits 58 s in
    let k : length (key_until (start_of s) m) ≡ m + length (start_of s) = length-key_until (start_of s) m in
    ap (λ start. key_back start n i) (start-after s m)
    ∙ ap (λ bits. get_or bits i false) (sym (key_until-take (key_until (start_of s) m) n (omega arith)))
    ∙ get_or-take (n + 58) (key_until (key_until (start_of s) m) n) i false h
    ∙ ap (λ bits. get_or bits i false) (sym (key_until-add (start_of s) m n))

first_part : (s k : ℕ) → k < 39 → bit_at (bits_after s 39) k ≡ bit_at (key_word (start_of s) 0) (25 + k)
first_part s k h = bits_after-bit s 39 k h ∙ ap digit (sym (back_by (start_of s) 25 39 k)) ∙ sym (key_word-bit (start_of s) 0 (25 + k) (omega arith))

second_part : (s i : ℕ) → i < 25 → bit_at (bits_after (state_after s 39) 25) i ≡ bit_at (key_word (start_of s) 0) i
second_part s i h =
    bits_after-bit (state_after s 39) 25 i h ∙ ap digit (back_through s 39 25 i (omega arith)) ∙ sym (key_word-bit (start_of s) 0 i (omega arith))

high_bit : (s i k : ℕ) → i ≡ 25 + k → k < 39 → bit_at (bits_after s 39 * 2 ^ 25 + bits_after (state_after s 39) 25) i ≡ bit_at (key_word (start_of s) 0) i
high_bit s i k e h =
    rw e (bit_at-high (bits_after s 39) (bits_after (state_after s 39) 25) 25 k (bits_after-below (state_after s 39) 25) ∙ first_part s k h)

pub whole_key : (s : ℕ) → bits_after s 39 * 2 ^ 25 + bits_after (state_after s 39) 25 ≡ key_word (start_of s) 0
whole_key s =
    same_from_bits_below 64 _ _
    (joined_below (bits_after s 39) (bits_after (state_after s 39) 25) 39 25 64 (bits_after-below s 39) (bits_after-below (state_after s 39) 25) (omega arith))
    (key_word-below (start_of s) 0)
    (λ i h. elim (cases_lt i 25) [
      | inl l ↦ bit_at-low (bits_after s 39) (bits_after (state_after s 39) 25) 25 i (bits_after-below (state_after s 39) 25) l ∙ second_part s i l
      | inr l ↦ high_bit s i (i - 25) (omega arith) (omega arith)
    ])

-- the state after a word is the last 58 of its key bits
pub state_in_key : (s : ℕ) → key_word (start_of s) 0 % 2 ^ 58 ≡ state_before (start_of s) 1
state_in_key s =
    same_from_bits_below 58 _ _ (mod_below (key_word (start_of s) 0) (2 ^ 58) (pow_pos 58)) (state_before-below (start_of s) 1)
    (λ i h. bit_at-mod (key_word (start_of s) 0) 58 i h ∙ key_word-bit (start_of s) 0 i (omega arith) ∙ sym (state_before-bit (start_of s) 1 i h))
