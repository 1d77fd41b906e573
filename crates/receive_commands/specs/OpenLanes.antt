-- A plan's lanes while they are received.
use Rattle.std.specs.Prelude.{◌≡◌, ℕ, List, length, slice_get, Some, Vec}
use Rattle.std.specs.declared.alloc.Global.{Global}
use Rattle.lk_base.specs.Link.{Settings}
use Rattle.lock_model.specs.declared.types.LaneReport.{LaneReport}
use Rattle.receive_model.specs.Events.{Event, Setting}
use Rattle.event_model.specs.Fed.{Fed}
use Rattle.rx_front.specs.Calls.{IsReportOf}
use Rattle.rx_end.specs.Standing.{Stands}
use Rattle.rx_end.specs.States.{State}
use Rattle.lane_receipts.specs.LaneReports.{lane_lines}

-- the lines of the reports of this many lanes, which are those of the receiver
abbrev pub AreLinesOf : State → ℕ → Vec ℕ Global → Type 0
AreLinesOf r lanes text = (reports : List LaneReport) × (length reports ≡ lanes) × (text.items ≡ lane_lines 0 reports)
    × ((s : Settings) (setting : Setting) (fed : List Fed) (given : List Event) (stands : Stands r s setting fed given) (lane : ℕ) (report : LaneReport) → slice_get reports lane ≡ Some report → IsReportOf s stands.progress.rounds lane fed report)
