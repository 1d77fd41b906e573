-- What becomes of the error of a file's rows.
use Rattle.std.specs.Prelude.{ℕ}
use Rattle.csv_rows.specs.declared.items.RowFault.{RowFault}
use Rattle.csv_rows.specs.declared.items.RowFault.TheVariants as fault
use Rattle.csv_rows.specs.declared.telling.RowError.{RowError}
use Rattle.csv_rows.specs.declared.telling.RowError.TheVariants.{Row, OutOfMemory}
use Rattle.plan_errors.specs.declared.error.PlanError.{PlanError}
use Rattle.plan_errors.specs.declared.error.PlanError.TheVariants as refusal

-- the refusal of the row of this number for its fault
abbrev pub refusal_of : ℕ → RowFault → PlanError
refusal_of n fault.Text = refusal.Text n
refusal_of n fault.UnknownKey = refusal.UnknownKey n
refusal_of n fault.Fields = refusal.Fields n
refusal_of n fault.Number = refusal.Number n
refusal_of n fault.Range = refusal.Range n
refusal_of n fault.Repeat = refusal.Repeat n
refusal_of n fault.Clash = refusal.Clash n

abbrev pub plan_error : RowError → PlanError
plan_error (Row n fault) = refusal_of n fault
plan_error OutOfMemory = refusal.OutOfMemory
