-- The law on the state of a lane and its report.
use Rattle.std.specs.Prelude.{ℕ, ◌≡◌, Bool, true, false, nat_lt, Ok}
use Rattle.lock_model.specs.declared.types.LaneReport.{LaneReport}
use Rattle.lock_model.specs.declared.types.LaneState.{LaneState}
use Rattle.lock_model.specs.declared.types.LaneState.TheVariants as states
use Rattle.live_receiver.specs.Calls.{IsLaneState, IsReport}
use Rattle.live_receiver.specs.declared.session.Session.{Session}

abbrev pub is_declared : LaneState → Bool
is_declared states.Searching = false
is_declared states.WordLock = false
is_declared states.Declared = true

-- the lock of a lane is declared if its report has more locks than lost ones, and only then
abbrev pub StatesAreReported : Type 0
StatesAreReported = (s : Session) (lane : ℕ) (report : LaneReport) (state : LaneState) → IsReport s lane (Ok report) → IsLaneState s lane (Ok state) →
    is_declared state ≡ nat_lt report.lost report.locks
