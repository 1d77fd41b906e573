-- The reports of lanes whose bits came as they were sent.
use Rattle.std.specs.Prelude.{◌≡◌, ◌<◌, ◌+◌, ◌*◌, ℕ, List, length, get_or, Some}
use Rattle.lk_base.specs.Link.{Settings}
use Rattle.lock_model.specs.declared.types.LaneReport.{LaneReport}

-- The report of a lane with this skew: one lock was declared, at the bit of the sender's Sync number 3, and it was never lost. No
-- lock was lost before its declaration, and no search was given up.
pub record ShowsOwnLock (s : Settings) (skew : ℕ) (report : LaneReport) : Type 0 where
  pub one : report.locks ≡ 1
  pub first : report.first ≡ Some (skew + 67 * (3 * s.metaframe))
  pub kept : report.lost ≡ 0
  pub framed : report.unframed ≡ 0

-- there is one report for each lane, and it is so by the lane's skew
pub record ShowOwnLocks (s : Settings) (skews : List ℕ) (reports : List LaneReport) : Type 0 where
  pub one_each : length reports ≡ s.lanes
  pub each : (lane : ℕ) (other : LaneReport) → lane < s.lanes → ShowsOwnLock s (get_or skews lane 0) (get_or reports lane other)
