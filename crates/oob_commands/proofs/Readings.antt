-- A plan, and after it its local rows or its samples.
use Rattle.std.proofs.Common.{◌≡◌, ℕ, List, [], sym, ap, subst, Option, Some, IfSome, Result, Ok, Err, MatchResult, Vec, Global, inl, inr}
use Rattle.lk_outside.specs.Files.{Files}
use Rattle.stream_model.specs.declared.rows.LocalRow.{LocalRow}
use Rattle.link_plan.specs.Plan.{PlanValue}
use Rattle.link_plan.specs.Listing.{numbers_of}
use Rattle.link_plan.specs.Timed.{local_of}
use Rattle.link_plan.specs.Views.{numbers_in, plan_value}
use Rattle.link_plan.specs.declared.plan.Plan.{Plan}
use Rattle.run_stops.specs.declared.stop.Stop.{Stop}
use Rattle.run_stops.specs.Reading.{Refusal, behind, Reads, vec_items}
use Rattle.run_stops.proofs.Moves.{if_told_by}
use Rattle.run_stops.proofs.Readings.{first_stops, second_reads}
use Rattle.plan_inputs.specs.Inputs.{rows_in, plan_in}
use Rattle.plan_inputs.proofs.InputsRead.{same_numbers}
use Rattle.oob_commands.specs.WriteSamples.{LocalReading, with_local, local_reading_in, IsLocalRead}
use Rattle.oob_commands.specs.ReadRows.{SamplesReading, samples_in, with_samples, samples_reading_in, IsSamplesRead}
use Rattle.oob_commands.specs.Values.{local_value, samples_value}
use Rattle.oob_commands.specs.declared.reading.PlanLocal.{PlanLocal}
use Rattle.oob_commands.specs.declared.reading.PlanSamples.{PlanSamples}

module _ (name : List ℕ) where
  abbrev Plans : Files → Result PlanValue Refusal
  Plans files = plan_in files name

  abbrev IsPlan : Files → List ℕ → Type 0
  IsPlan files q = q ≡ name

  -- ---- local rows

  abbrev IsRead : Files → List ℕ → Type 0
  IsRead files q = IsLocalRead files name q

  pub no_plan : (s : Stop) (x : Option Files) → IfSome x (λ files. Reads {T = Plan} plan_value (λ n. n ≡ name) (Err s) (plan_in files name)) → IfSome x (λ files. Reads {T = PlanLocal} local_value (IsLocalRead files name) (Err s) (local_reading_in files name))
  unfolding local_reading_in
  no_plan s x h = first_stops PlanValue LocalReading Plan PlanLocal Plans with_local plan_value local_value IsPlan IsRead s x (λ u q e. inl e) h

  module _ (plan : Plan) (x y : Option Files) (same : y ≡ x) (had : IfSome x (λ files. plan_in files name ≡ Ok (plan_value plan))) where
    abbrev Locals : Files → Result (List LocalRow) Refusal
    Locals files = rows_in files [] (local_of (numbers_in (plan_value plan))) (plan_value plan).local

    abbrev together : Files → List LocalRow → Result LocalReading Refusal
    together files local = Ok (record { plan = plan_value plan; local = local })

    abbrev IsLocal : Files → List ℕ → Type 0
    IsLocal files q = (plan_value plan).local ≡ Some q

    at : (r : Result (Vec LocalRow Global) Stop) → IfSome y (λ files. Reads (λ v. v.items) (λ q. (plan_value plan).local ≡ Some q) r (rows_in files [] (local_of (numbers_of plan.channels.items)) (plan_value plan).local)) → IfSome y (λ files. Reads (λ v. v.items) (λ q. (plan_value plan).local ≡ Some q) r (Locals files))
    at r h = subst (λ ns. IfSome y (λ files. Reads (λ (v : Vec LocalRow Global). v.items) (λ q. (plan_value plan).local ≡ Some q) r (rows_in files [] (local_of ns) (plan_value plan).local))) (same_numbers plan.channels.items) h

    behind_plan : (r : Result PlanLocal Stop) → IfSome y (λ files. Reads local_value (λ q. (plan_value plan).local ≡ Some q) r (with_local files (plan_value plan))) → IfSome x (λ files. Reads local_value (IsLocalRead files name) r (local_reading_in files name))
    unfolding local_reading_in
    behind_plan r h = second_reads PlanValue LocalReading Plan PlanLocal Plans with_local local_value IsLocal IsRead (plan_value plan) r x y same
        (λ u q e n. inr (subst (λ a. MatchResult a (λ p. p.local ≡ Some q) (λ f. ⊥)) (sym e) n)) had h

    pub no_local : (s : Stop) → IfSome y (λ files. Reads {T = Vec LocalRow Global} (λ v. v.items) (λ q. (plan_value plan).local ≡ Some q) (Err s) (rows_in files [] (local_of (numbers_of plan.channels.items)) (plan_value plan).local)) → IfSome x (λ files. Reads {T = PlanLocal} local_value (IsLocalRead files name) (Err s) (local_reading_in files name))
    no_local s h = behind_plan (Err s) (first_stops (List LocalRow) LocalReading (Vec LocalRow Global) PlanLocal Locals together (λ v. v.items) local_value IsLocal IsLocal s y (λ u q n. n) (at (Err s) h))

    pub both_there : (local : Vec LocalRow Global) → IfSome y (λ files. Reads (λ v. v.items) (λ q. (plan_value plan).local ≡ Some q) (Ok local) (rows_in files [] (local_of (numbers_of plan.channels.items)) (plan_value plan).local)) → IfSome x (λ files. Reads local_value (IsLocalRead files name) (Ok (record { plan = plan; local = local })) (local_reading_in files name))
    both_there local h = behind_plan (Ok (record { plan = plan; local = local })) (if_told_by y (λ u k. ap (λ r. behind r (together u)) k) (at (Ok local) h))

  -- ---- samples

  abbrev IsReadToo : Files → List ℕ → Type 0
  IsReadToo files q = IsSamplesRead files name q

  pub no_plan_of_samples : (s : Stop) (x : Option Files) → IfSome x (λ files. Reads {T = Plan} plan_value (λ n. n ≡ name) (Err s) (plan_in files name)) → IfSome x (λ files. Reads {T = PlanSamples} samples_value (IsSamplesRead files name) (Err s) (samples_reading_in files name))
  unfolding samples_reading_in
  no_plan_of_samples s x h = first_stops PlanValue SamplesReading Plan PlanSamples Plans with_samples plan_value samples_value IsPlan IsReadToo s x (λ u q e. inl e) h

  module _ (plan : Plan) (x y : Option Files) (same : y ≡ x) (had : IfSome x (λ files. plan_in files name ≡ Ok (plan_value plan))) where
    abbrev Sampled : Files → Result (List ℕ) Refusal
    Sampled files = samples_in files (plan_value plan).oob

    abbrev with_plan : Files → List ℕ → Result SamplesReading Refusal
    with_plan files samples = Ok (record { plan = plan_value plan; samples = samples })

    abbrev IsSampled : Files → List ℕ → Type 0
    IsSampled files q = (plan_value plan).oob ≡ Some q

    behind_it : (r : Result PlanSamples Stop) → IfSome y (λ files. Reads samples_value (λ q. (plan_value plan).oob ≡ Some q) r (with_samples files (plan_value plan))) → IfSome x (λ files. Reads samples_value (IsSamplesRead files name) r (samples_reading_in files name))
    unfolding samples_reading_in
    behind_it r h = second_reads PlanValue SamplesReading Plan PlanSamples Plans with_samples samples_value IsSampled IsReadToo (plan_value plan) r x y same
        (λ u q e n. inr (subst (λ a. MatchResult a (λ p. p.oob ≡ Some q) (λ f. ⊥)) (sym e) n)) had h

    pub no_samples : (s : Stop) → IfSome y (λ files. Reads {T = Vec ℕ Global} vec_items (λ q. (plan_value plan).oob ≡ Some q) (Err s) (samples_in files (plan_value plan).oob)) → IfSome x (λ files. Reads {T = PlanSamples} samples_value (IsSamplesRead files name) (Err s) (samples_reading_in files name))
    no_samples s h = behind_it (Err s) (first_stops (List ℕ) SamplesReading (Vec ℕ Global) PlanSamples Sampled with_plan vec_items samples_value IsSampled IsSampled s y (λ u q n. n) h)

    pub samples_there : (samples : Vec ℕ Global) → IfSome y (λ files. Reads vec_items (λ q. (plan_value plan).oob ≡ Some q) (Ok samples) (samples_in files (plan_value plan).oob)) → IfSome x (λ files. Reads samples_value (IsSamplesRead files name) (Ok (record { plan = plan; samples = samples })) (samples_reading_in files name))
    samples_there samples h = behind_it (Ok (record { plan = plan; samples = samples })) (if_told_by y (λ u k. ap (λ r. behind r (with_plan u)) k) h)
