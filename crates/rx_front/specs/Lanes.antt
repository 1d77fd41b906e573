-- How a lane of a receiver stands to what was fed of it, and what its calls change.
use Rattle.std.specs.Prelude.{ℕ, ◌≡◌, ◌≤◌, ◌<◌, ◌+◌, ◌-◌, ◌*◌, ◌==◌, Bool, true, false, not, ◌||◌, List, [], ◌∷◌, ◌++◌, length, drop, replicate, get_or, sum_by}
use Rattle.std.specs.List.{list_all, All}
use Rattle.std.specs.Int.{bit_at}
use Rattle.lk_base.specs.Link.{Settings}
use Rattle.lock_model.specs.declared.types.LaneStep.{LaneStep}
use Rattle.lock_model.specs.declared.types.LaneStep.TheVariants as steps
use Rattle.lock_model.specs.Steps.{AreSteps}
use Rattle.lane_lock.specs.Standing as lock
use Rattle.event_model.specs.Fed.{Fed, first_bits}
use Rattle.rx_front.specs.States.{Lane}

-- ---- calls

-- it took these bytes
abbrev pub fed_lane : List ℕ → Lane → Lane
fed_lane bytes v = record { ring = v.ring ++ bytes; finished = v.finished; fed = v.fed + length bytes; lock = v.lock; steps = v.steps }

abbrev pub finished_lane : Lane → Lane
finished_lane v = record { ring = v.ring; finished = true; fed = v.fed; lock = v.lock; steps = v.steps }

abbrev pub is_empty : Lane → Bool
is_empty v = length v.ring == 0

-- a round finds a byte of it, or its end
abbrev pub is_ready : Lane → Bool
is_ready v = v.finished || not (is_empty v)

abbrev pub are_empty : List Lane → Bool
are_empty lanes = list_all is_empty lanes

abbrev pub are_ready : List Lane → Bool
are_ready lanes = list_all is_ready lanes

-- how many bytes the rings hold
abbrev pub bytes_left : List Lane → ℕ
bytes_left lanes = sum_by (λ lane. length lane.ring) lanes

-- it holds this many bytes
abbrev pub HasBytes : ℕ → Lane → Type 0
HasBytes n v = n ≤ length v.ring

-- the step of bit k of the last rounds
abbrev pub step_at : ℕ → Lane → LaneStep
step_at k v = get_or v.steps k steps.Ended

-- ---- the relation

-- these are the steps of a lane after this many rounds: those of its bits, and then it has ended
pub record IsColumn (s : Settings) (rounds : ℕ) (fed : Fed) (column : List LaneStep) : Type 0 where
  pub own : List LaneStep
  pub are : AreSteps s (first_bits (8 * rounds) fed) own
  pub shown : column ≡ own ++ replicate (8 * rounds - length own) steps.Ended

-- this many rounds were made, which completed these steps
pub record LaneStands (v : Lane) (s : Settings) (rounds : ℕ) (fed : Fed) (column : List LaneStep) : Type 0 where
  pub ring : v.ring ≡ drop rounds fed.bytes
  pub finished : v.finished ≡ fed.finished
  pub count : v.fed ≡ length fed.bytes
  -- of a lane that is not finished each round took a byte
  pub in_time : fed.finished ≡ false → rounds ≤ length fed.bytes
  pub lock : lock.Stands v.lock s (first_bits (8 * rounds) fed)
  pub completed : IsColumn s rounds fed column
  -- the steps of the last rounds are kept
  pub last : 0 < rounds → v.steps ≡ drop (8 * rounds - length v.steps) column

abbrev pub AllStand : List Lane → Settings → ℕ → List Fed → List (List LaneStep) → Type 0
AllStand [] s rounds [] [] = Unit {0}
AllStand (v ∷ lanes) s rounds (lane ∷ fed) (column ∷ columns) = LaneStands v s rounds lane column × AllStand lanes s rounds fed columns
AllStand lanes s rounds fed columns = ⊥

-- each lane of one list is so to the one at its place in the other
pub record AreEach (R : ℕ → Lane → Lane → Type 0) (lanes later : List Lane) : Type 0 where
  pub same : length later ≡ length lanes
  pub each : (i : ℕ) (d e : Lane) → i < length lanes → R i (get_or lanes i d) (get_or later i e)

-- a lane before and after this many rounds, which completed these steps
pub record IsMoved (n : ℕ) (v w : Lane) (column : List LaneStep) : Type 0 where
  pub ring : w.ring ≡ drop n v.ring
  pub long : length column ≡ 8 * n
  pub stands : (s : Settings) (rounds : ℕ) (fed : Fed) (before : List LaneStep) → LaneStands v s rounds fed before → LaneStands w s (rounds + n) fed (before ++ column)

-- and it keeps these steps
abbrev pub IsTaken : ℕ → Lane → Lane → Type 0
IsTaken n v w = IsMoved n v w w.steps

abbrev pub AreTaken : ℕ → List Lane → List Lane → Type 0
AreTaken n lanes later = AreEach (λ i. IsTaken n) lanes later

-- the steps of each lane, and further steps of it
abbrev pub both : List (List LaneStep) → List (List LaneStep) → List (List LaneStep)
both [] more = []
both (column ∷ columns) [] = column ∷ columns
both (column ∷ columns) (steps ∷ more) = (column ++ steps) ∷ both columns more

-- each keeps the steps of this many bits
abbrev pub AreWide : ℕ → List Lane → Type 0
AreWide width lanes = All (λ v. length v.steps ≡ width) lanes

-- at the bits of the last rounds at which a number has a 0 the lane shows nothing
abbrev pub Covers : ℕ → Lane → Type 0
Covers shows v = (k : ℕ) → k < length v.steps → bit_at shows k ≡ 0 → step_at k v ≡ steps.Nothing

abbrev pub AreCovered : ℕ → List Lane → Type 0
AreCovered shows lanes = All (Covers shows) lanes

-- a lane to which nothing was fed
abbrev pub IsFresh : Settings → Lane → Type 0
IsFresh s v = LaneStands v s 0 (record { bytes = []; finished = false }) []
