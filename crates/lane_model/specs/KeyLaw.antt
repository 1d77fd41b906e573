-- The law on the key.
use Rattle.std.specs.Prelude.{ℕ, suc, ◌≡◌, ◌<◌, ◌≤◌, ◌+◌, ◌-◌, ◌*◌, ◌^◌, Bool, false, List, length, get_or}
use Rattle.std.specs.Int.{bit_at}
use Rattle.lk_base.specs.Checksum.{differ, digit}
use Rattle.lane_model.specs.Key.{key_until, start_of, state_before, key_word}

-- the key bit b+1 steps before number n
abbrev pub key_back : List Bool → ℕ → ℕ → Bool
key_back start n b = get_or (key_until start n) b false

-- key bit number n
abbrev pub key_bit : List Bool → ℕ → Bool
key_bit start n = key_back start (suc n) 0

pub record KeyIsItsSequence : Type 0 where
  -- each bit is the exclusive or of those 39 and 58 steps back
  pub step : (start : List Bool) (n : ℕ) → key_bit start n ≡ differ (key_back start n 38) (key_back start n 57)
  -- a bit some steps back is the bit of that number, or before number 0 a bit of the first state
  pub later : (start : List Bool) (n b : ℕ) → b < n → key_back start n b ≡ key_bit start (n - 1 - b)
  pub earlier : (state n b : ℕ) → n ≤ b → b < n + 58 → digit (key_back (start_of state) n b) ≡ bit_at state (b - n)
  -- bit b of the state before word number j is the key bit b+1 steps back
  pub state : (start : List Bool) (j b : ℕ) → b < 58 → bit_at (state_before start j) b ≡ digit (key_back start (64 * j) b)
  -- bit 63-i of the key bits of word number j is key bit number 64*j + i
  pub word : (start : List Bool) (j i : ℕ) → i < 64 → bit_at (key_word start j) (63 - i) ≡ digit (key_bit start (64 * j + i))
  -- the first state is the one that was given, and a state has 58 bits
  pub first : (state : ℕ) → state < 2 ^ 58 → state_before (start_of state) 0 ≡ state
  pub below : (start : List Bool) (j : ℕ) → state_before start j < 2 ^ 58
  -- from any state the key goes on as it would have
  pub states_go_on : (start : List Bool) (j k : ℕ) → 58 ≤ length start → state_before (start_of (state_before start j)) k ≡ state_before start (j + k)
  pub words_go_on : (start : List Bool) (j k : ℕ) → 58 ≤ length start → key_word (start_of (state_before start j)) k ≡ key_word start (j + k)
