-- The laws on plans.
use Rattle.std.specs.Prelude.{ℕ, ◌≡◌, ◌+◌, ◌*◌, ◌/◌, ◌<◌, Bool, List, length, take, drop, get_or, Ok}
use Rattle.csv_rows.specs.Rows.{Row}
use Rattle.lk_base.specs.Checksum.{bits_of}
use Rattle.lk_base.specs.Link.{IsLink, Settings, group_of}
use Rattle.lk_base.specs.declared.word.Word.{Word}
use Rattle.lk_base.specs.declared.word.Word.TheVariants.{Data}
use Rattle.lane_model.specs.Coding.{code_of}
use Rattle.lane_model.specs.Key.{first_state, key_place, key_word, start_of}
use Rattle.lane_model.specs.LaneBits.{stream_lane_bits}
use Rattle.lane_model.specs.LaneWords.{scrambled}
use Rattle.epoch_model.specs.Groups.{SyncAt, behind_for, name_of, no_sync, place, size_of, sync_for}
use Rattle.link_plan.specs.Listing.{channels_in_order, numbers_of as listed_in}
use Rattle.link_plan.specs.Plan.{plan_of}
use Rattle.link_plan.specs.Views.{GivesPlan}
use Rattle.link_plan.specs.declared.plan.Plan.{Plan}
use Rattle.c_plan.specs.Numbers.{ArePlanNumbers, numbers_of}
use Rattle.c_plan.specs.Places.{bit_of_place, bit_of_slot, lane_of_place, lane_of_slot, position_of}

-- a plan's numbers are within the limits
abbrev pub NumbersAreOfPlans : Type 0
NumbersAreOfPlans = (rows : List Row) (plan : Plan) → GivesPlan (Ok plan) (plan_of rows) → ArePlanNumbers (numbers_of plan)

-- `channels` lists as many channels as the plan's numbers count
abbrev pub AllChannelsAreListed : Type 0
AllChannelsAreListed = (plan : Plan) → length (channels_in_order (listed_in plan.channels.items)) ≡ (numbers_of plan).channels

-- ---- words that are sent

-- the key bits of the word: those of its lane at its position
abbrev pub key_of_slot : Settings → ℕ → ℕ
key_of_slot s slot = key_word (start_of (first_state (lane_of_slot s slot))) (key_place s.metaframe (position_of s (slot / s.lanes)))

-- on the lane of the word the 67 bits from its bit on are its code: scrambled, and maybe inverted
pub record IsCodeOfSlot (s : Settings) (stream : List Word) (slot : ℕ) : Type 0 where
  pub inverted : Bool
  pub code : take 67 (drop (bit_of_slot s slot) (stream_lane_bits s stream (lane_of_slot s slot))) ≡ bits_of 67 (code_of inverted (scrambled (key_of_slot s slot) (get_or stream slot (Data 0))))

-- it is so for each word of a stream of whole groups
abbrev pub SlotsAreFound : Type 0
SlotsAreFound = (s : Settings) (stream : List Word) (groups slot : ℕ) → IsLink s → length stream ≡ groups * group_of s → slot < length stream → IsCodeOfSlot s stream slot

-- ---- words that are received

-- Word number `index` of a group is behind the Sync word of its lane. Its bit is as much later than that of the place, as its lane's
-- Sync word is later than that of lane 0, whose bit is the group's name: with no skew it is that of the place
pub record IsWordOfPlace (s : Settings) (group : List SyncAt) (index : ℕ) : Type 0 where
  pub lane : sync_for group index ≡ get_or group (lane_of_place s index) no_sync
  pub bit : place (sync_for group index) + 67 * behind_for s group index + name_of group ≡ bit_of_place s (name_of group) index + place (sync_for group index)

-- it is so for each word of a group of a Sync word for each lane, and a group has as many words as places
pub record PlacesAreFound : Type 0 where
  pub found : (s : Settings) (group : List SyncAt) (index : ℕ) → length group ≡ s.lanes → IsWordOfPlace s group index
  pub size : (s : Settings) (group : List SyncAt) → length group ≡ s.lanes → size_of s group ≡ group_of s
