-- The key is its sequence.
use Rattle.std.proofs.Common.{ℕ, zero, suc, ◌≡◌, refl, ap, ◌∙◌, ◌+◌, ◌-◌, ◌*◌, ◌^◌, ◌<◌, ◌≤◌, Bool, false, List, length, get_or, take, arith}
use Rattle.std.proofs.lemmas.List.{get_or-take}
use Rattle.std.specs.Int.{bit_at}
use Rattle.lk_base.specs.Checksum.{differ, digit}
use Rattle.lane_model.specs.Key.{key_until, start_of, state_before, key_word}
use Rattle.lane_model.specs.KeyLaw.{key_back, key_bit, KeyIsItsSequence}
use Rattle.lane_model.proofs.Numbers.{below-take, get_or-low_bits, bit-low_number}
use Rattle.lane_model.proofs.Keys.{no_more, one_more, state-again, key-again, state-first}

-- a bit further back is one that was there before
pub back_more : (start : List Bool) (n b : ℕ) → key_back start (suc n) (suc b) ≡ key_back start n b
back_more start n b = ap (λ bits. get_or bits (suc b) false) (one_more start n)

pub step : (start : List Bool) (n : ℕ) → key_bit start n ≡ differ (key_back start n 38) (key_back start n 57)
step start n = ap (λ bits. get_or bits 0 false) (one_more start n)

pub later : (start : List Bool) (n b : ℕ) → b < n → key_back start n b ≡ key_bit start (n - 1 - b)
later start zero b h = absurd (omega arith)
later start (suc n) zero h = let e : suc n - 1 - 0 ≡ n = omega arith in rw e refl
later start (suc n) (suc b) h = let e : suc n - 1 - suc b ≡ n - 1 - b = omega arith in rw e (back_more start n b ∙ later start n b (omega arith))

-- after n bits stands what was there before them
pub back_by : (start : List Bool) (n m b : ℕ) → key_back start (n + m) (n + b) ≡ key_back start m b
back_by start zero m b = let e : zero + m ≡ m = omega arith in let f : zero + b ≡ b = omega arith in rw (e, f) refl
back_by start (suc n) m b =
    let e : suc n + m ≡ suc (n + m) = omega arith in
    let f : suc n + b ≡ suc (n + b) = omega arith in
    rw (e, f) (back_more start (n + m) (n + b) ∙ back_by start n m b)

behind : (start : List Bool) (n b : ℕ) → key_back start n (n + b) ≡ get_or start b false
behind start n b =
    let e : n ≡ n + 0 = omega arith in
    ap (λ m. get_or (key_until start m) (n + b) false) e ∙ back_by start n 0 b ∙ ap (λ bits. get_or bits b false) (no_more start)

pub earlier : (state n b : ℕ) → n ≤ b → b < n + 58 → digit (key_back (start_of state) n b) ≡ bit_at state (b - n)
earlier state n b h k =
    let e : b ≡ n + (b - n) = omega arith in
    ap (λ i. digit (key_back (start_of state) n i)) e
    ∙ ap digit (behind (start_of state) n (b - n))
    ∙ get_or-low_bits 58 state (b - n) (omega arith)

pub state_before-bit : (start : List Bool) (j b : ℕ) → b < 58 → bit_at (state_before start j) b ≡ digit (key_back start (64 * j) b)
unfolding state_before
state_before-bit start j b h = bit-low_number (take 58 (key_until start (64 * j))) b ∙ ap digit (get_or-take 58 (key_until start (64 * j)) b false h)

pub key_word-bit : (start : List Bool) (j b : ℕ) → b < 64 → bit_at (key_word start j) b ≡ digit (key_back start (64 * j + 64) b)
unfolding key_word
key_word-bit start j b h =
    bit-low_number (take 64 (key_until start (64 * j + 64))) b ∙ ap digit (get_or-take 64 (key_until start (64 * j + 64)) b false h)

pub key_word-below : (start : List Bool) (j : ℕ) → key_word start j < 2 ^ 64
unfolding key_word
key_word-below start j = below-take 64 (key_until start (64 * j + 64))

word_bit : (start : List Bool) (j i : ℕ) → i < 64 → bit_at (key_word start j) (63 - i) ≡ digit (key_bit start (64 * j + i))
word_bit start j i h =
    let e : 64 * j + 64 - 1 - (63 - i) ≡ 64 * j + i = omega arith in
    key_word-bit start j (63 - i) (omega arith)
    ∙ ap digit (later start (64 * j + 64) (63 - i) (omega arith))
    ∙ ap (λ n. digit (key_bit start n)) e

pub state_before-below : (start : List Bool) (j : ℕ) → state_before start j < 2 ^ 58
unfolding state_before
state_before-below start j = below-take 58 (key_until start (64 * j))

pub states_go_on : (start : List Bool) (j k : ℕ) → 58 ≤ length start → state_before (start_of (state_before start j)) k ≡ state_before start (j + k)
states_go_on start j k h = let e : 0 * 2 ^ 58 + state_before start j ≡ state_before start j = omega arith in rw e at (state-again start 0 j k h)

pub words_go_on : (start : List Bool) (j k : ℕ) → 58 ≤ length start → key_word (start_of (state_before start j)) k ≡ key_word start (j + k)
words_go_on start j k h = let e : 0 * 2 ^ 58 + state_before start j ≡ state_before start j = omega arith in rw e at (key-again start 0 j k h)

pub key_holds : KeyIsItsSequence
key_holds = record {
  step = step;
  later = later;
  earlier = earlier;
  state = state_before-bit;
  word = word_bit;
  first = state-first;
  below = state_before-below;
  states_go_on = states_go_on;
  words_go_on = words_go_on;
}
