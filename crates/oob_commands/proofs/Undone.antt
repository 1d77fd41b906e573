-- What `oobwrite` made is undone by `oobread`, through the files.
use Rattle.std.proofs.Common.{◌≡◌, ℕ, ◌<◌, ◌≤◌, true, false, List, [], ◌∷◌, length, nat_lt, refl, sym, ap, ◌∙◌, subst, arith, Option, Some, Result, Ok, Err, MatchResult}
use Rattle.std.proofs.lemmas.Bool.Decides.{nat_tests}
use Rattle.lk_base.specs.Limits.{rows_limit}
use Rattle.lk_outside.specs.Files.{Files, file}
use Rattle.link_plan.specs.Plan.{PlanValue}
use Rattle.link_plan.specs.Timed.{flow_of}
use Rattle.run_stops.specs.declared.input_error.InputError.TheVariants.{TooLarge}
use Rattle.run_shell.specs.Outcome.{Outcome, Output}
use Rattle.run_stops.specs.Reading.{Refusal, of_input, behind, bytes_by}
use Rattle.run_shell.specs.Work.{refused_outcome}
use Rattle.plan_inputs.specs.Inputs.{rows_in}
use Rattle.plan_inputs.proofs.SomeSource.{plan_keeps}
use Rattle.oob_flow.specs.Samples.{first_bad}
use Rattle.oob_flow.specs.Written.{AreWritten}
use Rattle.oob_flow.specs.Reading.{rows_of_samples}
use Rattle.oob_flow.proofs.ReadingBack.{read_back}
use Rattle.oob_flow.proofs.WrittenSamples.{none_bad_written}
use Rattle.oob_commands.specs.FlowFile.{flow_file}
use Rattle.oob_commands.specs.Limits.{samples_limit}
use Rattle.oob_commands.specs.WriteSamples.{LocalReading, local_reading_in, samples_outcome, IsOfSamples}
use Rattle.oob_commands.specs.ReadRows.{SamplesReading, samples_by, samples_reading_in, oob_read_meaning}
use Rattle.oob_commands.specs.ReadBack.{IsHandedOver, IsUndone, flow_outcome}
use Rattle.oob_commands.proofs.FlowRead.{accepted}
use Rattle.oob_commands.proofs.FlowLength.{short}

-- ---- what `oobwrite` made

first_content : List Output → List ℕ
first_content [] = []
first_content (o ∷ os) = o.content

same_samples : (out samples others : List ℕ) → samples_outcome out samples ≡ samples_outcome out others → samples ≡ others
unfolding first_content
same_samples out samples others e = ap (λ (o : Outcome). first_content o.files) e

of_work : (i : LocalReading) (samples : List ℕ) → IsOfSamples i (samples_outcome i.plan.out samples) → AreWritten i.plan.entries i.local samples
of_work i samples h = subst (λ (s : List ℕ). AreWritten i.plan.entries i.local s) (sym (same_samples i.plan.out samples h.samples h.is)) h.written

by_meaning : (i : LocalReading) (o : Outcome) (r : Result LocalReading Refusal) → r ≡ Ok i → MatchResult r (λ j. IsOfSamples j o) (λ why. o ≡ refused_outcome why) → IsOfSamples i o
by_meaning i o (Ok j) e h = let same : j ≡ i = cc in subst (λ (l : LocalReading). IsOfSamples l o) same h
by_meaning i o (Err why) e h = absurd (cc)

-- ---- what is read

abbrev these : PlanValue → List ℕ → SamplesReading
these plan samples = record { plan = plan; samples = samples }

-- a file within its limit
within : (name bytes : List ℕ) (limit : ℕ) → length bytes ≤ limit → bytes_by name limit (Some bytes) ≡ Ok bytes
within name bytes limit h = let test : nat_lt limit (length bytes) ≡ false = grind (arith, nat_tests) in rw test refl

beyond : (name bytes : List ℕ) (limit : ℕ) → limit < length bytes → bytes_by name limit (Some bytes) ≡ Err (of_input name TooLarge)
beyond name bytes limit h = let test : nat_lt limit (length bytes) ≡ true = grind (arith, nat_tests) in rw test refl

module _ (files later : Files) (name other stored : List ℕ) (i : LocalReading) (p : PlanValue) (samples : List ℕ) (h : IsHandedOver files later name other stored i p samples) where
  written : AreWritten i.plan.entries i.local samples
  written = of_work i samples (by_meaning i (samples_outcome i.plan.out samples) (local_reading_in files name) h.reading h.made)

  some : 1 ≤ length i.plan.entries
  some = subst (λ (es : List ℕ). 1 ≤ length es) h.calendar (plan_keeps later other p h.plan).calendar.some_entries

  -- `oobread` with these bytes, or why they are refused
  by_bytes : (r : Result (List ℕ) Refusal) → bytes_by stored samples_limit (Some samples) ≡ r → samples_reading_in later other ≡ behind (behind r (λ bytes. samples_by stored bytes (first_bad bytes))) (λ bytes. Ok (these p bytes))
  unfolding samples_reading_in
  by_bytes r e = rw (h.plan, h.names, h.stands, e) refl

  read_all : length samples ≤ samples_limit → samples_reading_in later other ≡ Ok (these p samples)
  read_all few = by_bytes (Ok samples) (within stored samples samples_limit few)
      ∙ ap (λ (bad : Option ℕ). behind (samples_by stored samples bad) (λ bytes. Ok (these p bytes))) (none_bad_written i.plan.entries i.local samples written)

  rows_same : rows_of_samples (length i.plan.entries) samples ≡ rows_of_samples (length p.entries) samples
  rows_same = ap (λ (es : List ℕ). rows_of_samples (length es) samples) (sym h.calendar)

  comes : length samples ≤ samples_limit → (oob_read_meaning other).IsOutcome later (flow_outcome p.out (rows_of_samples (length i.plan.entries) samples))
  comes few = rw (read_all few) (ap (flow_outcome p.out) rows_same)

  is_read : length samples ≤ samples_limit → (last : Files) (flow : List ℕ) → file last flow ≡ Some (flow_file (rows_of_samples (length i.plan.entries) samples)) → rows_in last [] flow_of (Some flow) ≡ Ok (rows_of_samples (length i.plan.entries) samples)
  is_read few last flow at =
      let size = within flow (flow_file (rows_of_samples (length i.plan.entries) samples)) rows_limit (short (length i.plan.entries) samples some few) in
      rw (at, size, accepted (length i.plan.entries) samples some few) refl

  pub undoes : length samples ≤ samples_limit → IsUndone i samples later other p
  undoes few = record {
    written = written;
    rows = rows_of_samples (length i.plan.entries) samples;
    outcome = comes few;
    read = is_read few;
    shows = λ k channel slot le among is. read_back i.plan.entries i.local samples written k some le channel slot among is;
  }

  pub refuses : samples_limit < length samples → (oob_read_meaning other).IsOutcome later (refused_outcome (of_input stored TooLarge))
  refuses more = rw (by_bytes (Err (of_input stored TooLarge)) (beyond stored samples samples_limit more)) refl
