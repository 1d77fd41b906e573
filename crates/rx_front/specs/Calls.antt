-- What calls change of what was fed, and what they ask of a lane.
use Rattle.std.specs.Prelude.{ℕ, zero, suc, ◌-◌, ◌*◌, Bool, true, false, not, List, [], ◌∷◌, ◌++◌, length, replicate}
use Rattle.lk_base.specs.Link.{Settings}
use Rattle.lock_model.specs.declared.types.LaneReport.{LaneReport}
use Rattle.lock_model.specs.declared.types.LaneState.{LaneState}
use Rattle.lane_lock.specs.Standing.{IsReport, IsState}
use Rattle.event_model.specs.Fed.{Fed, first_bits}
use Rattle.rx_front.specs.Lanes.{fed_lane, finished_lane}
use Rattle.rx_front.specs.States.{Lane}

-- nothing was fed of this many lanes
abbrev pub nothing_fed : ℕ → List Fed
nothing_fed lanes = replicate lanes (record { bytes = []; finished = false })

-- these bytes more of lane number i
abbrev pub fed_more : ℕ → List ℕ → List Fed → List Fed
fed_more i bytes [] = []
fed_more zero bytes (lane ∷ fed) = record { bytes = lane.bytes ++ bytes; finished = lane.finished } ∷ fed
fed_more (suc i) bytes (lane ∷ fed) = lane ∷ fed_more i bytes fed

-- lane number i is finished
abbrev pub finished_at : ℕ → List Fed → List Fed
finished_at i [] = []
finished_at zero (lane ∷ fed) = record { bytes = lane.bytes; finished = true } ∷ fed
finished_at (suc i) (lane ∷ fed) = lane ∷ finished_at i fed

-- there is a lane number i, and it is not finished
abbrev pub is_open : ℕ → List Lane → Bool
is_open i [] = false
is_open zero (v ∷ lanes) = not v.finished
is_open (suc i) (v ∷ lanes) = is_open i lanes

-- how many bytes were fed of it
abbrev pub count_at : ℕ → List Lane → ℕ
count_at i [] = 0
count_at zero (v ∷ lanes) = v.fed
count_at (suc i) (v ∷ lanes) = count_at i lanes

-- how many bytes its ring has room for
abbrev pub room_at : ℕ → List Lane → ℕ
room_at i [] = 0
room_at zero (v ∷ lanes) = 4096 - length v.ring
room_at (suc i) (v ∷ lanes) = room_at i lanes

-- there is a lane number i, which is not finished
abbrev pub is_unfinished : ℕ → List Fed → Bool
is_unfinished i [] = false
is_unfinished zero (lane ∷ fed) = not lane.finished
is_unfinished (suc i) (lane ∷ fed) = is_unfinished i fed

-- how many bytes were fed of it
abbrev pub bytes_at : ℕ → List Fed → ℕ
bytes_at i [] = 0
bytes_at zero (lane ∷ fed) = length lane.bytes
bytes_at (suc i) (lane ∷ fed) = bytes_at i fed

-- this holds of lane number i, if there is one
abbrev pub AtLane : ℕ → List Fed → (Fed → Type 0) → Type 0
AtLane i [] holds = Unit {0}
AtLane zero (lane ∷ fed) holds = holds lane
AtLane (suc i) (lane ∷ fed) holds = AtLane i fed holds

-- this is the report over the bytes that this many rounds took of lane number i
abbrev pub IsReportOf : Settings → ℕ → ℕ → List Fed → LaneReport → Type 0
IsReportOf s rounds i fed report = AtLane i fed (λ lane. IsReport s (first_bits (8 * rounds) lane) report)

-- this is how far the search for its locks is after them
abbrev pub IsStateOf : Settings → ℕ → ℕ → List Fed → LaneState → Type 0
IsStateOf s rounds i fed state = AtLane i fed (λ lane. IsState s (first_bits (8 * rounds) lane) state)

-- lane number i took these bytes
abbrev pub lanes_fed : ℕ → List ℕ → List Lane → List Lane
lanes_fed i bytes [] = []
lanes_fed zero bytes (v ∷ lanes) = fed_lane bytes v ∷ lanes
lanes_fed (suc i) bytes (v ∷ lanes) = v ∷ lanes_fed i bytes lanes

-- lane number i is finished
abbrev pub lanes_finished : ℕ → List Lane → List Lane
lanes_finished i [] = []
lanes_finished zero (v ∷ lanes) = finished_lane v ∷ lanes
lanes_finished (suc i) (v ∷ lanes) = v ∷ lanes_finished i lanes
