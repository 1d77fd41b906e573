-- The headers of 67 positions at once, and the positions of a search over many bytes.
use Rattle.std.proofs.Common.{ℕ, zero, suc, ◌≡◌, refl, sym, ap, ◌∙◌, ◌+◌, ◌-◌, ◌*◌, ◌/◌, ◌%◌, ◌^◌, ◌<◌, ◌≤◌, ◌==◌, ◌||◌, bit_and, bit_xor, Bool, true, false, List, [], ◌∷◌, ◌++◌, length, map, take, drop, reverse, get_or, arith, inl, inr, append_assoc, length-drop}
use Rattle.std.specs.Int.{bit_at}
use Rattle.std.specs.List.{range_with_len}
use Rattle.std.proofs.lemmas.Bool.{cases_lt}
use Rattle.std.proofs.lemmas.List.{get_or-drop, get_or-reverse, get_or-take, length-take-le}
use Rattle.std.proofs.lemmas.List.FromFn.{map-range_with_len_more}
use Rattle.std.proofs.lemmas.Nat.{shr-shr}
use Rattle.std.proofs.lemmas.Nat.Bits.{bit_at_and, bit_at_ones, bit_at_xor}
use Rattle.lk_base.specs.Checksum.{bits_of, digit}
use Rattle.lane_model.specs.Bits.{high_number}
use Rattle.lane_model.specs.Coding.{is_legal}
use Rattle.lane_model.proofs.Numbers.{bit-low_number, number-bits_of}
use Rattle.lock_model.specs.Locks.{code_at}

-- ---- the two bits of a header

-- a number that has the bits from a position on is the code there
pub code_is : (bits : List Bool) (q code : ℕ) → code < 2 ^ 67 → bits_of 67 code ≡ take 67 (drop q bits) → code ≡ code_at bits q
unfolding code_at
code_is bits q code below e = sym (number-bits_of 67 code below) ∙ ap high_number e

-- a bit of a code is one of the lane's
bit_of_code : (bits : List Bool) (q k : ℕ) → k < 67 → q + 67 ≤ length bits → bit_at (code_at bits q) (66 - k) ≡ digit (get_or bits (q + k) false)
unfolding code_at
bit_of_code bits q k h there =
    let d = length-drop q bits in
    let l : length (take 67 (drop q bits)) ≡ 67 = length-take-le 67 (drop q bits) (omega arith) in
    let e : length (take 67 (drop q bits)) - 1 - (66 - k) ≡ k = omega arith in
    bit-low_number (reverse (take 67 (drop q bits))) (66 - k)
    ∙ ap digit (get_or-reverse (take 67 (drop q bits)) (66 - k) false (omega arith)
    ∙ ap (λ (x : ℕ). get_or (take 67 (drop q bits)) x false) e
    ∙ get_or-take 67 (drop q bits) k false h ∙ get_or-drop q bits k false)

-- a header is legal where its bits differ
header_differs : (h : ℕ) → h < 4 → digit ((h == 1) || (h == 2)) ≡ (h / 2 + h % 2) % 2
header_differs zero less = refl
header_differs (suc zero) less = refl
header_differs (suc (suc zero)) less = refl
header_differs (suc (suc (suc zero))) less = refl
header_differs (suc (suc (suc (suc h)))) less = absurd (omega arith)

header_bits : (x y : ℕ) → y ≡ x / 2 → digit ((x % 4 == 1) || (x % 4 == 2)) ≡ (y % 2 + x % 2) % 2
header_bits x y e =
    let high : x % 4 / 2 ≡ y % 2 = omega arith in
    let low : x % 4 % 2 ≡ x % 2 = omega arith in
    header_differs (x % 4) (omega arith) ∙ rw (high, low) refl

legal_digit : (code : ℕ) → digit (is_legal code) ≡ (bit_at code 65 + bit_at code 64) % 2
legal_digit code = header_bits (code / 2 ^ 64) (code / 2 ^ 65) (sym (shr-shr code 64 1))

-- both bits of 67 headers in a row
pub legal_bit : (bits : List Bool) (q j : ℕ) → j < 67 → q + 133 ≤ length bits →
    bit_at (bit_xor (code_at bits (q + 1)) (code_at bits (q + 2))) (66 - j) ≡ digit (is_legal (code_at bits (q + j)))
legal_bit bits q j h there =
    let first : q + 1 + j ≡ q + j + 1 = omega arith in
    let second : q + 2 + j ≡ q + j + 2 = omega arith in
    let a : bit_at (code_at bits (q + 1)) (66 - j) ≡ bit_at (code_at bits (q + j)) 65 =
    bit_of_code bits (q + 1) j h (omega arith) ∙ ap (λ (x : ℕ). digit (get_or bits x false)) first ∙ sym (bit_of_code bits (q + j) 1 (omega arith) (omega arith)) in
    let b : bit_at (code_at bits (q + 2)) (66 - j) ≡ bit_at (code_at bits (q + j)) 64 =
    bit_of_code bits (q + 2) j h (omega arith) ∙ ap (λ (x : ℕ). digit (get_or bits x false)) second ∙ sym (bit_of_code bits (q + j) 2 (omega arith) (omega arith)) in
    bit_at_xor (code_at bits (q + 1)) (code_at bits (q + 2)) (66 - j) ∙ rw (a, b) (sym (legal_digit (code_at bits (q + j))))

-- ---- the misses of each phase

-- each of the last 67 positions whose bit is 0, or one that is up to `words` - 1 words before it, has an illegal header
abbrev pub MissUnless : List Bool → ℕ → ℕ → Type 0
MissUnless bits words legal = (j : ℕ) → j < 67 → bit_at legal (66 - j) ≡ 0 →
    (i : ℕ) × (1 ≤ i) × (i ≤ words) × (is_legal (code_at bits (length bits + j - 66 - 67 * i)) ≡ false)

pub misses_none : (bits : List Bool) → MissUnless bits 0 (2 ^ 67 - 1)
misses_none bits j h e = absurd (let o = bit_at_ones 67 (66 - j) (omega arith) in omega arith)

not_legal : (b : Bool) → digit b ≡ 0 → b ≡ false
not_legal true e = absurd (omega arith)
not_legal false e = refl

-- a word farther back
pub misses_more : (bits : List Bool) (words legal headers at : ℕ) → at + 66 + 67 * (words + 1) ≡ length bits →
    ((j : ℕ) → j < 67 → bit_at headers (66 - j) ≡ digit (is_legal (code_at bits (at + j)))) →
    MissUnless bits words legal → MissUnless bits (words + 1) (bit_and legal headers)
misses_more bits words legal headers at is said misses j h e =
    let both = bit_at_and legal headers (66 - j) in
    elim (cases_lt 0 (bit_at legal (66 - j))) [
      | inl one ↦
          let none : bit_at headers (66 - j) ≡ 0 = omega arith in
          let place : length bits + j - 66 - 67 * (words + 1) ≡ at + j = omega arith in
          (words + 1, omega arith, omega arith, ap (λ (x : ℕ). is_legal (code_at bits x)) place ∙ not_legal (is_legal (code_at bits (at + j))) (sym (said j h) ∙ none))
      | inr none ↦ let p = misses j h (omega arith) in (p.0, p.1, omega (arith, p.2), p.3)
    ]

-- ---- the positions that a search took

-- one more
pub position_more : (test : ℕ → Bool) (given : List Bool) (first k : ℕ) (b : Bool) → b ≡ test (first + k) →
    (given ++ map test (range_with_len first k)) ++ b ∷ [] ≡ given ++ map test (range_with_len first (k + 1))
position_more test given first k b e =
    append_assoc given (map test (range_with_len first k)) (b ∷ [])
    ∙ ap (λ (x : Bool). given ++ (map test (range_with_len first k) ++ x ∷ [])) e
    ∙ ap (λ (xs : List Bool). given ++ xs) (sym (map-range_with_len_more test first k (first + k) refl))
