-- What `oobread FILE` means: the samples that a plan names become a flow file.
use Rattle.std.specs.Prelude.{◌≡◌, ◌⊎◌, ℕ, List, [], ◌∷◌, ◌++◌, length, Option, Some, None, Result, Ok, Err, MatchResult}
use lib.Chars.{codes}
use Rattle.lk_outside.specs.Files.{Files}
use Rattle.link_plan.specs.Plan.{PlanValue}
use Rattle.plan_errors.specs.declared.error.Key.TheVariants as key
use Rattle.plan_errors.specs.declared.error.PlanError.TheVariants as refusal
use Rattle.link_reports.specs.Lines.{count_line}
use Rattle.run_stops.specs.declared.input_error.InputError.TheVariants.{Samples}
use Rattle.run_shell.specs.declared.status.Status.TheVariants.{Done}
use Rattle.run_shell.specs.Outcome.{Outcome}
use Rattle.run_shell.specs.Meaning.{Meaning}
use Rattle.run_stops.specs.Reading.{Refusal, of_plan, of_input, behind, bytes_in}
use Rattle.run_shell.specs.Work.{Work, meaning_by}
use Rattle.plan_inputs.specs.Inputs.{plan_in}
use Rattle.oob_flow.specs.Samples.{first_bad}
use Rattle.oob_flow.specs.Reading.{rows_of_samples}
use Rattle.oob_commands.specs.Limits.{samples_limit}
use Rattle.oob_commands.specs.FlowFile.{flow_file}

-- a plan and the samples that it names
pub record SamplesReading : Type 0 where
  pub plan : PlanValue
  pub samples : List ℕ

-- the samples of a file's bytes: all of them, or the least byte that is none
abbrev pub samples_by : List ℕ → List ℕ → Option ℕ → Result (List ℕ) Refusal
samples_by name bytes None = Ok bytes
samples_by name bytes (Some offset) = Err (of_input name (Samples offset))

-- the samples in the file that a plan names; a plan that names none is refused
abbrev pub samples_in : Files → Option (List ℕ) → Result (List ℕ) Refusal
samples_in files None = Err (of_plan (refusal.Missing key.Oob))
samples_in files (Some name) = behind (bytes_in files name samples_limit) (λ bytes. samples_by name bytes (first_bad bytes))

abbrev pub with_samples : Files → PlanValue → Result SamplesReading Refusal
with_samples files plan = behind (samples_in files plan.oob) (λ samples. Ok (record { plan = plan; samples = samples }))

-- the plan in the file of this name, and after it its samples
unfoldable pub samples_reading_in : Files → List ℕ → Result SamplesReading Refusal
samples_reading_in files name = behind (plan_in files name) (with_samples files)

-- what is read for them: the plan's own file, and where it is accepted the sample file that it names
abbrev pub IsSamplesRead : Files → List ℕ → List ℕ → Type 0
IsSamplesRead files plan name = (name ≡ plan) ⊎ MatchResult (plan_in files plan) (λ p. p.oob ≡ Some name) (λ r. ⊥)

-- the name of the flow file
abbrev pub flow_name : List ℕ → List ℕ
flow_name out = out ++ codes ".oob.flow"

-- the one flow file of the rows that the samples give, and how many they are
abbrev pub rows_outcome : SamplesReading → Outcome
rows_outcome i =
    let rows = rows_of_samples (length i.plan.entries) i.samples in
    record { status = Done; files = record { name = flow_name i.plan.out; content = flow_file rows } ∷ []; text = count_line (codes "rows") (length rows) }

abbrev pub oob_read_work : List ℕ → Work
oob_read_work name = record {
  Inputs = SamplesReading;
  inputs_in = λ files. samples_reading_in files name;
  IsMade = λ i o. o ≡ rows_outcome i;
  IsHeld = λ i. ⊥;
  Creates = λ i q. q ≡ flow_name i.plan.out;
  Names = λ files q. IsSamplesRead files name q;
  IsReadLate = λ files q. ⊥;
}

abbrev pub oob_read_meaning : List ℕ → Meaning
oob_read_meaning name = meaning_by (oob_read_work name)
