-- The key by strides of less than a word.
use Rattle.std.specs.Prelude.{ℕ, take}
use Rattle.lane_model.specs.Bits.{low_number}
use Rattle.lane_model.specs.Key.{key_until, start_of}

-- the next n key bits after a state, the latest as bit 0
unfoldable pub bits_after : ℕ → ℕ → ℕ
bits_after state n = low_number (take n (key_until (start_of state) n))

-- the state after these bits
unfoldable pub state_after : ℕ → ℕ → ℕ
state_after state n = low_number (take 58 (key_until (start_of state) n))
