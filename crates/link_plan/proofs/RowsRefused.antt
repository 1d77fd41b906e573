-- What the readers of rows answer where rows are refused, or memory ran out.
use Rattle.std.proofs.Common.{◌≡◌, ◌≢◌, ℕ, List, Some, Result, Err, [], ap, sym, ◌∙◌, refl}
use Rattle.csv_rows.specs.Rows.{Row}
use Rattle.csv_rows.specs.Checked.{first_fault}
use Rattle.csv_rows.specs.declared.items.RowFault.{RowFault}
use Rattle.csv_rows.specs.declared.items.RowFault.TheVariants as fault
use Rattle.csv_rows.specs.declared.telling.RowError.{RowError}
use Rattle.csv_rows.specs.declared.telling.RowError.TheVariants as error
use Rattle.plan_errors.specs.Rows.{plan_error}
use Rattle.plan_errors.specs.declared.error.PlanError.TheVariants as refusal
use Rattle.link_plan.specs.Keys.{keys}
use Rattle.link_plan.specs.Refusals.{refused_by, IsOfPlan}
use Rattle.link_plan.specs.Plan.{plan_of, unless_fault}

-- the refused row is the refusal of the file
pub rows-refused : (X : Type 0) (answer : Result X (ℕ × RowFault)) (e : RowError) → ((n : ℕ) (f : RowFault) → e ≡ error.Row n f → answer ≡ Err (n, f)) → plan_error e ≢ refusal.OutOfMemory → refused_by answer ≡ Err (plan_error e)
rows-refused X answer (error.Row n f) told some = ap (refused_by {X = X}) (told n f refl)
rows-refused X answer error.OutOfMemory told some = absurd (some refl)

-- what `checked_rows` says of a file that it refuses
abbrev pub IsFirst : List Row → RowError → Type 0
IsFirst rows e = e ≢ error.OutOfMemory → (f : ℕ × RowFault) × (first_fault keys [] rows ≡ Some f) × (e ≡ error.Row f.0 f.1)

pub plan-refused : (rows : List Row) (e : RowError) → IsFirst rows e → plan_error e ≢ refusal.OutOfMemory → plan_of rows ≡ Err (plan_error e)
unfolding plan_of
plan-refused rows (error.Row n f) told some =
    let (g, first, is) = told (λ k. absurd (cc k)) in
    ap (unless_fault rows) first ∙ ap (λ (e : RowError). Err (plan_error e)) (sym is)
plan-refused rows error.OutOfMemory told some = absurd (some refl)

pub plan-error : (e : RowError) → IsOfPlan (plan_error e)
plan-error (error.Row n fault.Text) = tt
plan-error (error.Row n fault.UnknownKey) = tt
plan-error (error.Row n fault.Fields) = tt
plan-error (error.Row n fault.Number) = tt
plan-error (error.Row n fault.Range) = tt
plan-error (error.Row n fault.Repeat) = tt
plan-error (error.Row n fault.Clash) = tt
plan-error error.OutOfMemory = tt
