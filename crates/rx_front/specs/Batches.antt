-- Many rounds at once, each of which finds a byte of every lane.
use Rattle.std.specs.Prelude.{ℕ, ◌≡◌, ◌<◌, ◌⊎◌, true, List, [], length, get_or, take}
use Rattle.lk_base.specs.Checksum.{bits_of_bytes}
use Rattle.lock_model.specs.declared.types.LaneStep.{LaneStep}
use Rattle.lock_model.specs.Shows.{shown_in}
use Rattle.lane_lock.specs.Bytes.{Brings}
use Rattle.lane_lock.specs.Search.{IsFar}
use Rattle.deskew.specs.Ahead.{can_run_ahead, is_locked}
use Rattle.deskew.specs.Awaits.{awaits_lock}
use Rattle.deskew.specs.Columns.{columns_taken}
use Rattle.deskew.specs.States as deskew
use Rattle.deskew.specs.Steps.{steps_taken}
use Rattle.rx_front.specs.Lanes.{AreEach, IsMoved}
use Rattle.rx_front.specs.States.{Lane, State}

-- a lane before and after this many rounds, whose bits completed these steps, none of which it keeps
pub record IsBatch (n : ℕ) (v w : Lane) (column : List LaneStep) : Type 0 where
  pub moved : IsMoved n v w column
  pub kept : w.steps ≡ []
  pub brings : Brings v.lock w.lock (bits_of_bytes (take n v.ring)) column

-- and the deskew took those that show something, as steps of lane i
pub record IsBatchOf (n i : ℕ) (v w : Lane) (d e : deskew.State) : Type 0 where
  pub column : List LaneStep
  pub lane : IsBatch n v w column
  pub deskew : e ≡ steps_taken i (shown_in column) d

-- each lane is in a declared lock, or far from one
abbrev pub KeepLocks : List deskew.LaneState → List Lane → Type 0
KeepLocks ls lanes = (i : ℕ) (e : deskew.LaneState) (d : Lane) → i < length ls → i < length lanes → (is_locked (get_or ls i e) ≡ true) ⊎ IsFar (get_or lanes i d).lock

-- all bits of at most 536 rounds may be taken before an item is given
abbrev pub MayTake : State → Type 0
MayTake v = (can_run_ahead v.deskew ≡ true) ⊎ ((awaits_lock v.deskew ≡ true) × KeepLocks v.deskew.lanes v.lanes)

-- the same of all lanes
pub record TookBatch (n : ℕ) (lanes later : List Lane) (d e : deskew.State) : Type 0 where
  pub columns : List (List LaneStep)
  pub count : length columns ≡ length lanes
  pub batches : AreEach (λ i v w. IsBatch n v w (get_or columns i [])) lanes later
  pub deskew : e ≡ columns_taken 0 columns d
