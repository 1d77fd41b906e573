-- Where on the lanes a word is.
use Rattle.std.specs.Prelude.{ℕ, ◌≡◌, ◌+◌, ◌*◌, ◌/◌, ◌%◌, ◌^◌, ◌<◌}
use Rattle.lk_base.specs.Link.{Settings, group_of}
use Rattle.lane_model.specs.Framing.{payloads}
use Rattle.c_parts.specs.declared.place.CPlace.{CPlace}
use Rattle.c_plan.specs.declared.places.LaneBit.{LaneBit}

-- ---- a word of a group

-- a group has the place: it is known, its index is below the words of a group, and a lane may have the bit of its group
pub record IsPlace (s : Settings) (at : CPlace) : Type 0 where
  pub known : at.known ≡ 1
  pub index : at.index < group_of s
  pub group : at.group < 2 ^ 44

-- the words of a group go over the lanes in turn
abbrev pub lane_of_place : Settings → ℕ → ℕ
lane_of_place s index = index % s.lanes

-- a group begins on each lane with its Sync word, its Scrambler State word and its Skip words
abbrev pub bit_of_place : Settings → ℕ → ℕ → ℕ
bit_of_place s group index = group + 67 * (s.skips + 2 + index / s.lanes)

abbrev pub place_found : Settings → CPlace → LaneBit
place_found s at = record { lane = lane_of_place s at.index; bit = bit_of_place s at.group at.index }

-- ---- a word of a stream that is sent

-- a stream with more words is not counted
abbrev pub IsSlot : ℕ → Type 0
IsSlot slot = slot < 2 ^ 56

-- the words of a stream go over the lanes in turn
abbrev pub lane_of_slot : Settings → ℕ → ℕ
lane_of_slot s slot = slot % s.lanes

-- the position of payload word number n of a lane among all its words
abbrev pub position_of : Settings → ℕ → ℕ
position_of s n = n / payloads s * s.metaframe + (s.skips + 2 + n % payloads s)

abbrev pub bit_of_slot : Settings → ℕ → ℕ
bit_of_slot s slot = 67 * position_of s (slot / s.lanes)

abbrev pub slot_found : Settings → ℕ → LaneBit
slot_found s slot = record { lane = lane_of_slot s slot; bit = bit_of_slot s slot }
