-- What is known of what `oobwrite` and `oobread` make.
use Rattle.std.specs.Prelude.{◌≡◌, ℕ, ◌≤◌, ◌<◌, List, [], ◌∷◌, length, Contains, Some, Ok}
use lib.Chars.{codes}
use Rattle.csv_rows.specs.Rows.{rows_of}
use Rattle.lk_outside.specs.Files.{Files, file}
use Rattle.stream_model.specs.Calendar.{is_on, is_locally_on}
use Rattle.stream_model.specs.declared.rows.FlowRow.{FlowRow}
use Rattle.link_plan.specs.Plan.{PlanValue}
use Rattle.link_plan.specs.Timed.{flow_of}
use Rattle.link_reports.specs.Lines.{count_line}
use Rattle.run_stops.specs.declared.input_error.InputError.TheVariants.{TooLarge}
use Rattle.run_shell.specs.declared.status.Status.TheVariants.{Done}
use Rattle.run_shell.specs.Outcome.{Outcome}
use Rattle.run_stops.specs.Reading.{of_input}
use Rattle.run_shell.specs.Work.{IsWork, refused_outcome}
use Rattle.plan_inputs.specs.Inputs.{plan_in, rows_in}
use Rattle.oob_flow.specs.Written.{AreWritten, frame_begin}
use Rattle.oob_flow.specs.Reading.{rows_of_samples}
use Rattle.oob_flow.specs.ReadBack.{IsAfterFrame, ShowsFrame}
use Rattle.oob_commands.specs.Limits.{samples_limit}
use Rattle.oob_commands.specs.FlowFile.{flow_file}
use Rattle.oob_commands.specs.WriteSamples.{LocalReading, local_reading_in, samples_outcome, oob_write_work, oob_write_meaning, IsOfSamples}
use Rattle.oob_commands.specs.ReadRows.{SamplesReading, samples_reading_in, flow_name, rows_outcome, oob_read_work, oob_read_meaning}

-- what is read has one outcome, where files hold bytes there is one, and no stream is held
abbrev pub WriteIsWork : Type 0
WriteIsWork = (name : List ℕ) → IsWork (oob_write_work name)

abbrev pub ReadIsWork : Type 0
ReadIsWork = (name : List ℕ) → IsWork (oob_read_work name)

-- The samples of a plan's calendar and local rows. Let them be read: after the rows of a frame each channel that has a
-- calendar entry is on exactly where it was on in that frame.
pub record IsReadBack (i : LocalReading) (o : Outcome) : Type 0 where
  pub samples : List ℕ
  pub written : AreWritten i.plan.entries i.local samples
  pub outcome : o ≡ samples_outcome i.plan.out samples
  pub shows : (k : ℕ) → k ≤ written.last → ShowsFrame i.plan.entries i.local samples written k

abbrev pub SamplesAreReadBack : Type 0
SamplesAreReadBack = (files : Files) (name : List ℕ) (i : LocalReading) (o : Outcome) → local_reading_in files name ≡ Ok i → IsOfSamples i o → IsReadBack i o

-- the flow file of a plan's samples, which is accepted as the rows that they give
pub record IsAcceptedFlow (i : SamplesReading) (o : Outcome) : Type 0 where
  pub outcome : o ≡ rows_outcome i
  pub accepted : flow_of (rows_of (flow_file (rows_of_samples (length i.plan.entries) i.samples))) ≡ Ok (rows_of_samples (length i.plan.entries) i.samples)

abbrev pub FlowFilesAreAccepted : Type 0
FlowFilesAreAccepted = (files : Files) (name : List ℕ) (i : SamplesReading) (o : Outcome) → samples_reading_in files name ≡ Ok i → o ≡ rows_outcome i → IsAcceptedFlow i o

-- `oobread` of a plan comes to one flow file with these rows
abbrev pub flow_outcome : List ℕ → List FlowRow → Outcome
flow_outcome out rows = record { status = Done; files = record { name = flow_name out; content = flow_file rows } ∷ []; text = count_line (codes "rows") (length rows) }

-- What `oobwrite` made of a plan and its local rows, these samples, is undone by `oobread` of the plan `p` in the file `other`.
pub record IsUndone (i : LocalReading) (samples : List ℕ) (later : Files) (other : List ℕ) (p : PlanValue) : Type 0 where
  pub written : AreWritten i.plan.entries i.local samples
  pub rows : List FlowRow
  pub outcome : (oob_read_meaning other).IsOutcome later (flow_outcome p.out rows)
  -- wherever the flow file stands, it is read as its rows
  pub read : (last : Files) (flow : List ℕ) → file last flow ≡ Some (flow_file rows) → rows_in last [] flow_of (Some flow) ≡ Ok rows
  -- by them, after the rows of a frame, each channel that has a calendar entry is on exactly where it was on in that frame by
  -- the local rows
  pub shows : (k channel slot : ℕ) → k ≤ written.last → Contains i.plan.entries channel → IsAfterFrame i.plan.entries written.last k slot
      → is_on i.plan.entries rows channel slot ≡ is_locally_on i.local channel (frame_begin i.plan.entries k)

-- `oobwrite` made these samples of a plan and its local rows. They stand, under whatever name and among whatever files, where
-- a plan with the same calendar names them.
pub record IsHandedOver (files later : Files) (name other stored : List ℕ) (i : LocalReading) (p : PlanValue) (samples : List ℕ) : Type 0 where
  pub reading : local_reading_in files name ≡ Ok i
  pub made : (oob_write_meaning name).IsOutcome files (samples_outcome i.plan.out samples)
  pub plan : plan_in later other ≡ Ok p
  pub calendar : p.entries ≡ i.plan.entries
  pub names : p.oob ≡ Some stored
  pub stands : file later stored ≡ Some samples

-- within the limit of sample files `oobread` undoes what `oobwrite` made
abbrev pub OobReadUndoesOobWrite : Type 0
OobReadUndoesOobWrite = (files later : Files) (name other stored : List ℕ) (i : LocalReading) (p : PlanValue) (samples : List ℕ) →
    IsHandedOver files later name other stored i p samples → length samples ≤ samples_limit → IsUndone i samples later other p

-- beyond it the file of samples is refused
abbrev pub OobReadRefusesMore : Type 0
OobReadRefusesMore = (files later : Files) (name other stored : List ℕ) (i : LocalReading) (p : PlanValue) (samples : List ℕ) →
    IsHandedOver files later name other stored i p samples → samples_limit < length samples → (oob_read_meaning other).IsOutcome later (refused_outcome (of_input stored TooLarge))
