-- The key goes on from the 58 bits of a state.
use Rattle.std.proofs.Common.{ℕ, zero, suc, ◌≡◌, refl, sym, ap, ◌∙◌, ◌+◌, ◌*◌, ◌^◌, ◌<◌, ◌≤◌, Bool, false, List, ◌∷◌, length, get_or, take, arith}
use Rattle.std.proofs.lemmas.List.{get_or-take, take-take, length-take, take_all}
use Rattle.lk_base.specs.Checksum.{differ}
use Rattle.lane_model.specs.Bits.{low_number}
use Rattle.lane_model.specs.Key.{key_until, start_of, state_before, key_word}
use Rattle.lane_model.proofs.Numbers.{low_bits-number, below-low_number, length-low_bits, number-low_bits}

pub length-key_until : (start : List Bool) (n : ℕ) → length (key_until start n) ≡ n + length start
unfolding key_until
length-key_until start zero = omega arith
length-key_until start (suc n) = let e : length (key_until start n) ≡ n + length start = length-key_until start n in omega arith

pub no_more : (start : List Bool) → key_until start 0 ≡ start
unfolding key_until
no_more start = refl

pub one_more : (start : List Bool) (n : ℕ) → key_until start (suc n) ≡ differ (get_or (key_until start n) 38 false) (get_or (key_until start n) 57 false) ∷ key_until start n
unfolding key_until
one_more start n = refl

-- the key in two parts
pub key_until-add : (start : List Bool) (m n : ℕ) → key_until start (n + m) ≡ key_until (key_until start m) n
key_until-add start m zero = let e : zero + m ≡ m = omega arith in rw (e, no_more (key_until start m)) refl
key_until-add start m (suc n) =
    let e : suc n + m ≡ suc (n + m) = omega arith in
    rw (e, one_more start (n + m), one_more (key_until start m) n, key_until-add start m n) refl

-- the latest 58 key bits give the rest
pub key_until-take : (start : List Bool) (n : ℕ) → 58 ≤ length start → take (n + 58) (key_until start n) ≡ key_until (take 58 start) n
key_until-take start zero h = let e : zero + 58 ≡ 58 = omega arith in rw (e, no_more start, no_more (take 58 start)) refl
key_until-take start (suc n) h =
    let e : suc n + 58 ≡ suc (n + 58) = omega arith in
    let less : 38 < n + 58 = omega arith in
    let lesser : 57 < n + 58 = omega arith in
    let before = key_until start n in
    rw (e, one_more start n, one_more (take 58 start) n, ← key_until-take start n h, get_or-take (n + 58) before 38 false less, get_or-take (n + 58) before 57 false lesser) refl

-- the start that a state gives is the latest 58 key bits
pub start-state : (start : List Bool) (a j : ℕ) → 58 ≤ length start → start_of (a * 2 ^ 58 + state_before start j) ≡ take 58 (key_until start (64 * j))
unfolding state_before
start-state start a j h =
    let n : length (key_until start (64 * j)) ≡ 64 * j + length start = length-key_until start (64 * j) in
    low_bits-number (take 58 (key_until start (64 * j))) a 58 (length-take 58 (key_until start (64 * j)) ∙ omega arith)

pub state-below : (start : List Bool) (j : ℕ) → 58 ≤ length start → state_before start j < 2 ^ 58
unfolding state_before
state-below start j h =
    let n : length (key_until start (64 * j)) ≡ 64 * j + length start = length-key_until start (64 * j) in
    let bits = take 58 (key_until start (64 * j)) in
    let l : length (take 58 (key_until start (64 * j))) ≡ 58 = length-take 58 (key_until start (64 * j)) ∙ omega arith in
    let b : low_number bits < 2 ^ length bits = below-low_number bits in
    rw l at b

latest : (start : List Bool) (n m : ℕ) → 58 ≤ length start → m ≤ n + 58 → take m (key_until (take 58 start) n) ≡ take m (key_until start n)
latest start n m h le = ap (take m) (sym (key_until-take start n h)) ∙ take-take m (n + 58) (key_until start n) le

-- the latest bits from a place 64 * j on are those of the key from the start
latest-from : (start : List Bool) (j n m total : ℕ) → 58 ≤ length start → m ≤ n + 58 → total ≡ n + 64 * j →
    take m (key_until (take 58 (key_until start (64 * j))) n) ≡ take m (key_until start total)
latest-from start j n m total h le e =
    let l : 58 ≤ length (key_until start (64 * j)) = (let n : length (key_until start (64 * j)) ≡ 64 * j + length start = length-key_until start (64 * j) in omega arith) in
    latest (key_until start (64 * j)) n m l le ∙ ap (take m) (sym (key_until-add start (64 * j) n) ∙ sym (ap (key_until start) e))

states : (start : List Bool) (j k : ℕ) → 58 ≤ length start → state_before (take 58 (key_until start (64 * j))) k ≡ state_before start (j + k)
unfolding state_before
states start j k h = ap low_number (latest-from start j (64 * k) 58 (64 * (j + k)) h (omega arith) (omega arith))

keys : (start : List Bool) (j k : ℕ) → 58 ≤ length start → key_word (take 58 (key_until start (64 * j))) k ≡ key_word start (j + k)
unfolding key_word
keys start j k h = ap low_number (latest-from start j (64 * k + 64) 64 (64 * (j + k) + 64) h (omega arith) (omega arith))

-- the words that follow have the key of a start made from the state
pub state-again : (start : List Bool) (a j k : ℕ) → 58 ≤ length start →
    state_before (start_of (a * 2 ^ 58 + state_before start j)) k ≡ state_before start (j + k)
state-again start a j k h = rw (start-state start a j h) (states start j k h)

pub key-again : (start : List Bool) (a j k : ℕ) → 58 ≤ length start →
    key_word (start_of (a * 2 ^ 58 + state_before start j)) k ≡ key_word start (j + k)
key-again start a j k h = rw (start-state start a j h) (keys start j k h)

pub state-first : (state : ℕ) → state < 2 ^ 58 → state_before (start_of state) 0 ≡ state
unfolding state_before
state-first state h =
    let l : length (start_of state) ≡ 58 = length-low_bits 58 state in
    ap (λ s. low_number (take 58 s)) (no_more (start_of state)) ∙ ap low_number (take_all 58 (start_of state) (omega arith)) ∙ number-low_bits 58 state h
