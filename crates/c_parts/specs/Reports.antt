-- A report as C sees it.
use Rattle.std.specs.Prelude.{ℕ, Option, Some, None}
use Rattle.lock_model.specs.declared.types.LaneReport.{LaneReport}
use Rattle.c_parts.specs.declared.report.Report.{Report}

abbrev pub number_or_zero : Option ℕ → ℕ
number_or_zero None = 0
number_or_zero (Some n) = n

abbrev pub one_if_some : Option ℕ → ℕ
one_if_some None = 0
one_if_some (Some n) = 1

abbrev pub as_report : LaneReport → Report
as_report r = record { locks = r.locks; has_first = one_if_some r.first; first = number_or_zero r.first; lost = r.lost; unframed = r.unframed; bad = r.bad; sync = r.sync; state = r.state; diag = r.diag }

-- a report of nothing
abbrev pub no_report : Report
no_report = record { locks = 0; has_first = 0; first = 0; lost = 0; unframed = 0; bad = 0; sync = 0; state = 0; diag = 0 }
