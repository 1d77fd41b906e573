-- The stream of a plan and its inputs: what it comes to is lawful, and is what is made of its source.
use Rattle.std.proofs.Common.{◌≡◌, ◌⊎◌, ◌<◌, ◌^◌, ℕ, List, length, refl, sym, ◌∙◌, subst, Option, Result, Ok}
use Rattle.lk_base.specs.declared.word.Word.{Word}
use Rattle.lk_base.specs.Link.{Settings}
use Rattle.tx_end.specs.Whole.{IsShapeOf}
use Rattle.link_plan.specs.Plan.{PlanValue}
use Rattle.plan_inputs.specs.Sources as Planned
use Rattle.stream_model.specs.BurstStream.{Source, IsBurstStream, IsHeld}
use Rattle.link_plan.specs.Plan.{PlanValue}
use Rattle.lk_outside.specs.Files.{Files, AreBytes}
use Rattle.run_shell.specs.declared.status.Status.TheVariants.{Done, Held}
use Rattle.run_stops.specs.declared.stop.Stop.{Stop}
use Rattle.run_shell.specs.declared.finished.Finished.{Finished}
use Rattle.run_shell.specs.Meaning.{IsMeaning}
use Rattle.run_shell.specs.Outcome.{Output, Outcome}
use Rattle.run_shell.specs.Work.{IsWork}
use Rattle.run_shell.specs.Writing.{Writes}
use Rattle.run_shell.proofs.Works.{is_meaning}
use Rattle.run_shell.proofs.Writing.{writes_alike}
use Rattle.plan_inputs.specs.Inputs.{Reading, planned_in}
use Rattle.plan_inputs.specs.Sources.{IsSourceOf}
use Rattle.plan_inputs.proofs.SameSource.{same_source}
use Rattle.plan_inputs.proofs.PlanStream.{planned_stream}
use Rattle.stream_commands.specs.declared.form.StreamForm.{StreamForm}
use Rattle.stream_commands.specs.declared.form.StreamForm.TheVariants as form
use Rattle.stream_commands.specs.Stream.{IsOfStream, HasStream}
use Rattle.stream_commands.specs.Outputs.{IsWordsFile, AreLaneOutputs}
use Rattle.stream_commands.specs.Plan.{HasPlanStream, IsPlanHeld, burst_plan_work, burst_plan_meaning, send_plan_work, send_plan_meaning}
use Rattle.stream_commands.specs.Form.{made_by, names_by, Suits, IsFormOf}
use Rattle.stream_commands.proofs.OneOutcome.{one_outcome, status_cases}
use Rattle.stream_commands.proofs.SomeOutcome.{some_outcome}
use Rattle.stream_commands.proofs.LaneContents.{one_list, some_list}

module _ (made : List Word → List Output → Type 0) (i : Reading) (source : Source) (is : IsSourceOf i.plan i.inputs source) where
  -- what the source's stream comes to, the stream of the plan and its inputs does
  pub of_source : (o : Outcome) → HasStream made source o → HasPlanStream made i o
  of_source o (w, h) = (w, record { source = source; is_source = is; of_stream = h })

  -- and the other way round
  pub to_source : (o : Outcome) → HasPlanStream made i o → HasStream made source o
  to_source o (w, h) = (w, subst (λ (s : Source). IsOfStream made s w o) (same_source i.plan i.inputs h.source source h.is_source is) h.of_stream)

  means_held : IsPlanHeld i → (w : List Word) × IsBurstStream source w × IsHeld source w
  means_held (other, are, h) = subst (λ (s : Source). (w : List Word) × IsBurstStream s w × IsHeld s w) (same_source i.plan i.inputs other source are is) h

  pub status_by : (o : Outcome) → HasPlanStream made i o → ((o.status ≡ Held) × IsPlanHeld i) ⊎ ((o.status ≡ Done) × (IsPlanHeld i → ⊥))
  status_by o h = status_cases made source o (IsPlanHeld i) means_held (λ w stream held. (source, is, (w, stream, held))) (to_source o h)

module _ (made : List Word → List Output → Type 0) where
  one_by : ((w : List Word) (a b : List Output) → made w a → made w b → a ≡ b) → (i : Reading) (o p : Outcome) → HasPlanStream made i o → HasPlanStream made i p → o ≡ p
  one_by one i o p (w, h) k = one_outcome made one h.source o p (to_source made i h.source h.is_source o (w, h)) (to_source made i h.source h.is_source p k)

  some_by : ((w : List Word) → (files : List Output) × made w files) → (files : Files) (name : List ℕ) (i : Reading) → AreBytes files → planned_in files name ≡ Ok i → (o : Outcome) × HasPlanStream made i o
  some_by some files name i are had =
      let (source, is, (w, stream)) = planned_stream files name i are had in
      let (outputs, of) = some w in
      let (o, h) = some_outcome made source w stream outputs of in
      (o, of_source made i source is o h)

  cases_by : (i : Reading) (o : Outcome) → HasPlanStream made i o → ((o.status ≡ Held) × IsPlanHeld i) ⊎ ((o.status ≡ Done) × (IsPlanHeld i → ⊥))
  cases_by i o (w, h) = status_by made i h.source h.is_source o (w, h)

burst_is_work : (name : List ℕ) → IsWork (burst_plan_work name)
burst_is_work name = record {
  one_made = λ i o p h k. one_by (IsWordsFile i.plan.out) (λ w a b x y. x ∙ sym y) i o p h k;
  some_made = λ files are i is. some_by (IsWordsFile i.plan.out) (λ w. (_, refl)) files name i are is;
  made_status = λ i o h. cases_by (IsWordsFile i.plan.out) i o h;
}

pub burst_means : (name : List ℕ) → IsMeaning (burst_plan_meaning name)
burst_means name = is_meaning (burst_plan_work name) (burst_is_work name)

send_is_work : (name : List ℕ) → IsWork (send_plan_work name)
send_is_work name = record {
  one_made = λ i o p h k. one_by (AreLaneOutputs i.plan.settings i.plan.out) (one_list i.plan.settings i.plan.out) i o p h k;
  some_made = λ files are i is. some_by (AreLaneOutputs i.plan.settings i.plan.out) (some_list i.plan.settings i.plan.out) files name i are is;
  made_status = λ i o h. cases_by (AreLaneOutputs i.plan.settings i.plan.out) i o h;
}

pub send_means : (name : List ℕ) → IsMeaning (send_plan_meaning name)
send_means name = is_meaning (send_plan_work name) (send_is_work name)

-- ---- what is written

pub suits_by : (plan : PlanValue) (f : StreamForm) (source : Source) → IsFormOf plan.settings f → Planned.IsShapeOf plan source.shape → length source.packets < 2 ^ 32 → Suits f source
suits_by plan form.Words source is shape few = tt
suits_by plan (form.Lanes link) source is shape few =
    (subst (λ (s : Settings). IsShapeOf s source.shape) (sym is) (record { burst_max = shape.burst_max; burst_short = shape.burst_short; group = shape.group; warmup = shape.warmup }), few)

-- what is written of the source of a plan and its inputs
pub writes_plan : (f : StreamForm) (out prefix : List ℕ) (i : Reading) (source : Source) (r : Result Finished Stop) (x y : Option Files) → IsSourceOf i.plan i.inputs source → prefix ≡ out
    → Writes (HasStream (made_by f prefix) source) (names_by f prefix) r x y → Writes (HasPlanStream (made_by f out) i) (names_by f out) r x y
writes_plan f out prefix i source r x y is same h =
    writes_alike (HasStream (made_by f out) source) (HasPlanStream (made_by f out) i) (names_by f out) r x y (of_source (made_by f out) i source is) (to_source (made_by f out) i source is)
    (subst (λ (n : List ℕ). Writes (HasStream (made_by f n) source) (names_by f n) r x y) same h)
