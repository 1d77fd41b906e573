-- What holds of each refusal of a row and of memory holds of what becomes of the error of rows.
use Rattle.std.proofs.Common.{◌≡◌, ℕ, refl}
use Rattle.csv_rows.specs.declared.items.RowFault.{RowFault}
use Rattle.csv_rows.specs.declared.telling.RowError.{RowError}
use Rattle.csv_rows.specs.declared.telling.RowError.TheVariants.{Row, OutOfMemory}
use Rattle.plan_errors.specs.Rows.{refusal_of, plan_error}
use Rattle.plan_errors.specs.declared.error.PlanError.{PlanError}
use Rattle.plan_errors.specs.declared.error.PlanError.TheVariants as refusal

pub each-error : (P : PlanError → Type 0) (e : RowError) → P refusal.OutOfMemory → ((n : ℕ) (f : RowFault) → e ≡ Row n f → P (refusal_of n f)) → P (plan_error e)
each-error P (Row n f) memory rows = rows n f refl
each-error P OutOfMemory memory rows = memory
