-- What `oobwrite FILE` means: the calendar of a plan and its local rows become samples.
use Rattle.std.specs.Prelude.{◌≡◌, ◌⊎◌, ℕ, List, [], ◌∷◌, ◌++◌, length, Some, Result, Ok, MatchResult}
use lib.Chars.{codes}
use Rattle.lk_outside.specs.Files.{Files}
use Rattle.stream_model.specs.declared.rows.LocalRow.{LocalRow}
use Rattle.link_plan.specs.Plan.{PlanValue}
use Rattle.link_plan.specs.Timed.{local_of}
use Rattle.link_plan.specs.Views.{numbers_in}
use Rattle.link_reports.specs.Lines.{count_line}
use Rattle.run_shell.specs.declared.status.Status.TheVariants.{Done}
use Rattle.run_shell.specs.Outcome.{Outcome}
use Rattle.run_shell.specs.Meaning.{Meaning}
use Rattle.run_stops.specs.Reading.{Refusal, behind}
use Rattle.run_shell.specs.Work.{Work, meaning_by}
use Rattle.plan_inputs.specs.Inputs.{plan_in, rows_in}
use Rattle.oob_flow.specs.Written.{AreWritten}

-- a plan and its local rows
pub record LocalReading : Type 0 where
  pub plan : PlanValue
  pub local : List LocalRow

abbrev pub with_local : Files → PlanValue → Result LocalReading Refusal
with_local files plan = behind (rows_in files [] (local_of (numbers_in plan)) plan.local) (λ local. Ok (record { plan = plan; local = local }))

-- the plan in the file of this name, and after it its local rows
unfoldable pub local_reading_in : Files → List ℕ → Result LocalReading Refusal
local_reading_in files name = behind (plan_in files name) (with_local files)

-- what is read for them: the plan's own file, and where it is accepted the local file that it names
abbrev pub IsLocalRead : Files → List ℕ → List ℕ → Type 0
IsLocalRead files plan name = (name ≡ plan) ⊎ MatchResult (plan_in files plan) (λ p. p.local ≡ Some name) (λ r. ⊥)

-- the name of the sample file
abbrev pub samples_name : List ℕ → List ℕ
samples_name out = out ++ codes ".oob"

-- the one file of these samples, and how many they are
abbrev pub samples_outcome : List ℕ → List ℕ → Outcome
samples_outcome out samples = record { status = Done; files = record { name = samples_name out; content = samples } ∷ []; text = count_line (codes "samples") (length samples) }

-- the samples that are written of the plan's calendar and its local rows
pub record IsOfSamples (i : LocalReading) (o : Outcome) : Type 0 where
  pub samples : List ℕ
  pub written : AreWritten i.plan.entries i.local samples
  pub is : o ≡ samples_outcome i.plan.out samples

abbrev pub oob_write_work : List ℕ → Work
oob_write_work name = record {
  Inputs = LocalReading;
  inputs_in = λ files. local_reading_in files name;
  IsMade = IsOfSamples;
  IsHeld = λ i. ⊥;
  Creates = λ i q. q ≡ samples_name i.plan.out;
  Names = λ files q. IsLocalRead files name q;
  IsReadLate = λ files q. ⊥;
}

abbrev pub oob_write_meaning : List ℕ → Meaning
oob_write_meaning name = meaning_by (oob_write_work name)
