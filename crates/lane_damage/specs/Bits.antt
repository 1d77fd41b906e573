-- Bits of bytes on their way, by their places in the lane.
use Rattle.std.specs.Prelude.{ℕ, ◌≡◌, ◌+◌, ◌*◌, ◌<◌, ◌%◌, ◌==◌, ◌&&◌, List, Bool, false, not, length, map, count_by, nat_le, nat_lt, if◌then◌else◌, slice_index_or}
use Rattle.std.specs.List.{enumerate_from, list_any}
use Rattle.lk_base.specs.Checksum.{bits_of_bytes}
use Rattle.lane_model.specs.Damage.{DarkBits, LaneDamage, received_bit}

-- Bits of a lane as they are received, the first of which is sent bit number n. From bit 0 on these are the damaged bits of the lane
abbrev pub damaged_from : LaneDamage → ℕ → List Bool → List Bool
damaged_from damage n sent = map (received_bit damage) (enumerate_from n sent)

-- the bit at a place, the highest one of the first byte first
abbrev pub bit_in : List ℕ → ℕ → Bool
bit_in bytes p = slice_index_or (bits_of_bytes bytes) p false

-- each bit of these bytes is changed in this way, by its number in the lane, whose bit number n is the first of them
pub record IsChanged (change : ℕ → Bool → Bool) (n : ℕ) (old new : List ℕ) : Type 0 where
  pub long : length new ≡ length old
  pub each : (p : ℕ) → p < 8 * length old → bit_in new p ≡ change (n + p) (bit_in old p)

-- inverted where an odd number of these names the bit
abbrev pub turned_by : List ℕ → ℕ → Bool → Bool
turned_by flips n b = if count_by (λ m. m == n) flips % 2 == 1 then not b else b

-- 0 where one of these covers the bit
abbrev pub darkened_by : List DarkBits → ℕ → Bool → Bool
darkened_by darks n b = if list_any (λ (d : DarkBits). nat_le d.first n && nat_lt n (d.first + d.count)) darks then false else b
