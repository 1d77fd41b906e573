-- What was written is read back, through the files.
use Rattle.std.proofs.Common.{◌≡◌, ℕ, ◌≤◌, Bool, true, false, List, [], length, nat_lt, refl, subst, arith, Option, Some, None, Ok}
use Rattle.std.proofs.lemmas.Bool.Decides.{nat_tests}
use Rattle.csv_rows.specs.Rows.{rows_of}
use Rattle.lk_outside.specs.Files.{Files, file}
use Rattle.stream_model.specs.declared.rows.LocalRow.{LocalRow}
use Rattle.link_plan.specs.Plan.{PlanValue}
use Rattle.link_plan.specs.Timed.{flow_of, local_of}
use Rattle.link_plan.specs.Views.{numbers_in}
use Rattle.run_shell.specs.Outcome.{Outcome}
use Rattle.run_stops.specs.Reading.{bytes_by, bytes_in}
use Rattle.run_stops.proofs.Readings.{behind_ok}
use Rattle.plan_inputs.specs.Inputs.{plan_in, rows_in}
use Rattle.plan_inputs.proofs.SomeSource.{plan_keeps}
use Rattle.oob_flow.specs.Samples.{first_bad}
use Rattle.oob_flow.specs.Reading.{rows_of_samples}
use Rattle.oob_flow.proofs.ReadingBack.{read_back}
use Rattle.oob_commands.specs.FlowFile.{flow_file}
use Rattle.oob_commands.specs.Limits.{samples_limit}
use Rattle.oob_commands.specs.WriteSamples.{LocalReading, with_local, local_reading_in, IsOfSamples}
use Rattle.oob_commands.specs.ReadRows.{SamplesReading, samples_by, samples_in, with_samples, samples_reading_in, rows_outcome}
use Rattle.oob_commands.specs.ReadBack.{IsReadBack, IsAcceptedFlow}
use Rattle.oob_commands.proofs.FlowRead.{accepted}

-- ---- the calendar of an accepted plan has an entry

abbrev with_rows : PlanValue → List LocalRow → LocalReading
with_rows plan local = record { plan = plan; local = local }

local_plan : (files : Files) (name : List ℕ) (i : LocalReading) → local_reading_in files name ≡ Ok i → plan_in files name ≡ Ok i.plan
unfolding local_reading_in
local_plan files name i e =
    let (plan, had, next) = behind_ok (plan_in files name) (with_local files) i e in
    let (local, read, all) = behind_ok (rows_in files [] (local_of (numbers_in plan)) plan.local) (λ local. Ok (with_rows plan local)) i next in
    let same : with_rows plan local ≡ i = cc in
    subst (λ (r : LocalReading). plan_in files name ≡ Ok r.plan) same had

abbrev with_these : PlanValue → List ℕ → SamplesReading
with_these plan samples = record { plan = plan; samples = samples }

-- a file that is read within a limit is so long at most
within : (name bytes read : List ℕ) (limit : ℕ) (b : Bool) → nat_lt limit (length bytes) ≡ b → bytes_by name limit (Some bytes) ≡ Ok read → length read ≤ limit
within name bytes read limit true is e = absurd (cc)
within name bytes read limit false is e = let same : bytes ≡ read = cc in subst (λ (v : List ℕ). length v ≤ limit) same (low limit (length bytes) is)
  where
    low : (m n : ℕ) → nat_lt m n ≡ false → n ≤ m
    low m n h = grind (arith, nat_tests)

short : (name read : List ℕ) (limit : ℕ) (found : Option (List ℕ)) → bytes_by name limit found ≡ Ok read → length read ≤ limit
short name read limit None e = absurd (cc)
short name read limit (Some bytes) e = within name bytes read limit (nat_lt limit (length bytes)) refl e

all_good : (name bytes samples : List ℕ) (bad : Option ℕ) → samples_by name bytes bad ≡ Ok samples → bytes ≡ samples
all_good name bytes samples None e = cc
all_good name bytes samples (Some offset) e = absurd (cc)

few_samples : (files : Files) (o : Option (List ℕ)) (samples : List ℕ) → samples_in files o ≡ Ok samples → length samples ≤ samples_limit
few_samples files None samples e = absurd (cc)
few_samples files (Some name) samples e =
    let (bytes, had, next) = behind_ok (bytes_in files name samples_limit) (λ bytes. samples_by name bytes (first_bad bytes)) samples e in
    subst (λ (v : List ℕ). length v ≤ samples_limit) (all_good name bytes samples (first_bad bytes) next) (short name bytes samples_limit (file files name) had)

-- what is read for `oobread`
record IsGood (files : Files) (name : List ℕ) (i : SamplesReading) : Type 0 where
  plan : plan_in files name ≡ Ok i.plan
  few : length i.samples ≤ samples_limit

is_good : (files : Files) (name : List ℕ) (i : SamplesReading) → samples_reading_in files name ≡ Ok i → IsGood files name i
unfolding samples_reading_in
is_good files name i e =
    let (plan, had, next) = behind_ok (plan_in files name) (with_samples files) i e in
    let (samples, read, all) = behind_ok (samples_in files plan.oob) (λ samples. Ok (with_these plan samples)) i next in
    let same : with_these plan samples ≡ i = cc in
    subst (IsGood files name) same (record { plan = had; few = few_samples files plan.oob samples read })

-- ---- the laws

pub written_back : (files : Files) (name : List ℕ) (i : LocalReading) (o : Outcome) → local_reading_in files name ≡ Ok i → IsOfSamples i o → IsReadBack i o
written_back files name i o is h = record {
  samples = h.samples;
  written = h.written;
  outcome = h.is;
  shows = λ k le. read_back i.plan.entries i.local h.samples h.written k (plan_keeps files name i.plan (local_plan files name i is)).calendar.some_entries le;
}

flow_accepted : (files : Files) (name : List ℕ) (i : SamplesReading) → samples_reading_in files name ≡ Ok i → flow_of (rows_of (flow_file (rows_of_samples (length i.plan.entries) i.samples))) ≡ Ok (rows_of_samples (length i.plan.entries) i.samples)
flow_accepted files name i is =
    let good = is_good files name i is in
    accepted (length i.plan.entries) i.samples (plan_keeps files name i.plan good.plan).calendar.some_entries good.few

pub flow_is_accepted : (files : Files) (name : List ℕ) (i : SamplesReading) (o : Outcome) → samples_reading_in files name ≡ Ok i → o ≡ rows_outcome i → IsAcceptedFlow i o
flow_is_accepted files name i o is h = record { outcome = h; accepted = flow_accepted files name i is }
