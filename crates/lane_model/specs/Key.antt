-- The key of a lane.
use Rattle.std.specs.Prelude.{ℕ, zero, suc, ◌+◌, ◌-◌, ◌*◌, ◌/◌, ◌%◌, ◌^◌, Bool, false, List, ◌∷◌, get_or, take}
use Rattle.lk_base.specs.Checksum.{differ}
use Rattle.lane_model.specs.Bits.{low_bits, low_number}

-- The key bits below number n, the last one first, after those of the start. Each is the exclusive or of the bits 39 and
-- 58 steps before it, which are at the indices 38 and 57.
unfoldable pub key_until : List Bool → ℕ → List Bool
key_until start zero = start
key_until start (suc n) = let before = key_until start n in differ (get_or before 38 false) (get_or before 57 false) ∷ before

-- the 58 key bits of a state, the last one first: bit b is the key bit b+1 steps before
abbrev pub start_of : ℕ → List Bool
start_of state = low_bits 58 state

-- the state that a lane starts from
abbrev pub first_state : ℕ → ℕ
first_state lane = 2 ^ 58 - 1 - lane

-- the state before word number j of those that use key bits
unfoldable pub state_before : List Bool → ℕ → ℕ
state_before start j = low_number (take 58 (key_until start (64 * j)))

-- the 64 key bits of word number j, the first of them as bit 63
unfoldable pub key_word : List Bool → ℕ → ℕ
key_word start j = low_number (take 64 (key_until start (64 * j + 64)))

-- How many words before this place, of those counted from a Sync on, use key bits: all but the first two of each metaframe.
-- As a − b is 0 if b is above a, the Sync and the State word themselves get the number of those before them.
unfoldable pub key_place : ℕ → ℕ → ℕ
key_place length place = place / length * (length - 2) + (place % length - 2)
