-- Why a plan is refused, as C sees it.
use Rattle.std.specs.Prelude.{List, ℕ, Err}
use Rattle.csv_rows.specs.Rows.{rows_of}
use Rattle.plan_errors.specs.declared.error.Key.{Key}
use Rattle.plan_errors.specs.declared.error.Key.TheVariants as keys
use Rattle.plan_errors.specs.declared.error.PlanError.{PlanError}
use Rattle.plan_errors.specs.declared.error.PlanError.TheVariants as errors
use Rattle.link_plan.specs.Plan.{plan_of}
use Rattle.link_plan.specs.Views.{GivesPlan}
use Rattle.c_parts.specs.declared.refusal.Refusal.{Refusal}

abbrev pub of_row : ℕ → ℕ → Refusal
of_row cause row = record { cause = cause; row = row; key = 0 }

abbrev pub of_key : ℕ → Refusal
of_key key = record { cause = 7; row = 0; key = key }

abbrev pub key_number : Key → ℕ
key_number keys.Lanes = 1
key_number keys.Metaframe = 2
key_number keys.Channel = 3
key_number keys.Out = 4
key_number keys.Oob = 5
key_number keys.Events = 6
key_number keys.Plan = 7
key_number keys.Delay = 8
key_number keys.Mark = 9
key_number keys.Slots = 10

abbrev pub refusal_of : PlanError → Refusal
refusal_of errors.NoFile = of_row 0 0
refusal_of errors.TooLarge = of_row 0 0
refusal_of errors.OutOfMemory = of_row 0 0
refusal_of (errors.Text row) = of_row 1 row
refusal_of (errors.UnknownKey row) = of_row 2 row
refusal_of (errors.Fields row) = of_row 3 row
refusal_of (errors.Number row) = of_row 4 row
refusal_of (errors.Range row) = of_row 5 row
refusal_of (errors.Repeat row) = of_row 6 row
refusal_of (errors.Missing key) = of_key (key_number key)
refusal_of (errors.Clash row) = of_row 8 row

-- the plan of these bytes is refused so, or memory ran out
abbrev pub IsRefused : List ℕ → PlanError → Type 0
IsRefused bytes why = GivesPlan (Err why) (plan_of (rows_of bytes))
