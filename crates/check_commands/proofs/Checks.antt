-- `check`: its outcomes, and the readings before it.
use Rattle.std.proofs.Common.{◌≡◌, ◌∙◌, ℕ, List, [], length, refl, sym, ap, subst, Option, Some, None, IfSome, Result, Ok, Err, MatchResult, Vec, Global, inl, inr}
use Rattle.lk_base.specs.declared.word.RxWord.{RxWord}
use Rattle.lk_outside.specs.Files.{Files}
use Rattle.stream_model.specs.declared.rows.FlowRow.{FlowRow}
use Rattle.link_plan.specs.Plan.{PlanValue}
use Rattle.link_plan.specs.Timed.{flow_of}
use Rattle.link_plan.specs.Views.{plan_value}
use Rattle.link_plan.specs.declared.plan.Plan.{Plan}
use Rattle.plan_inputs.specs.Inputs.{plan_in, rows_in}
use Rattle.run_stops.specs.declared.stop.Stop.{Stop}
use Rattle.run_stops.specs.Reading.{Reads, Refusal, behind}
use Rattle.run_stops.proofs.Moves.{if_told_by}
use Rattle.run_stops.proofs.Readings.{first_stops, second_reads}
use Rattle.run_shell.specs.Names.{words_name}
use Rattle.run_shell.specs.Outcome.{Outcome}
use Rattle.run_shell.specs.Meaning.{IsMeaning}
use Rattle.run_shell.specs.Work.{IsWork}
use Rattle.run_shell.proofs.Works.{is_meaning}
use Rattle.run_stops.specs.WordsInputs.{words_in}
use Rattle.check_commands.specs.Check.{CheckInputs, faults_found, told_outcome, IsOfPlan, IsReadFor, check_inputs_in, check_meaning, check_work, with_flow, with_words}
use Rattle.check_commands.specs.Values.{inputs_value}
use Rattle.check_commands.specs.declared.inputs.CheckInputs as code

-- ---- the work

pub is_work : (name : List ℕ) → IsWork (check_work name)
is_work name = record {
  one_made = λ i o p h k. h ∙ sym k;
  some_made = λ files bytes i is. (told_outcome i.plan.out (length i.words) (faults_found i), refl);
  made_status = λ i o h. inr (ap (λ (p : Outcome). p.status) h, λ x. x);
}

pub check_means : (name : List ℕ) → IsMeaning (check_meaning name)
check_means name = is_meaning (check_work name) (is_work name)

-- ---- a plan, its flow file and its words file

module _ (file : List ℕ) where
  -- the plan was refused, or reading it stopped
  pub no_plan : (s : Stop) (x : Option Files) → IfSome x (λ files. Reads plan_value (λ n. n ≡ file) (Err s) (plan_in files file)) → IfSome x (λ files. Reads inputs_value (IsReadFor file files) (Err s) (check_inputs_in files file))
  no_plan s x h = first_stops PlanValue CheckInputs Plan code.CheckInputs (λ files. plan_in files file) with_flow plan_value inputs_value (λ files n. n ≡ file) (IsReadFor file) s x (λ u q n. inl n) h

  module _ (plan : Plan) (x y : Option Files) (same : y ≡ x) (had : IfSome x (λ files. plan_in files file ≡ Ok (plan_value plan))) where
    abbrev Flows : Files → Result (List FlowRow) Refusal
    Flows files = rows_in files [] flow_of (plan_value plan).flow

    abbrev Named : Files → List ℕ → Type 0
    Named files q = IsOfPlan (plan_value plan) q

    behind_plan : (r : Result code.CheckInputs Stop) → IfSome y (λ files. Reads inputs_value (IsOfPlan (plan_value plan)) r (with_flow files (plan_value plan))) → IfSome x (λ files. Reads inputs_value (IsReadFor file files) r (check_inputs_in files file))
    behind_plan r h =
        second_reads PlanValue CheckInputs Plan code.CheckInputs (λ files. plan_in files file) with_flow inputs_value Named (IsReadFor file) (plan_value plan) r x y same
        (λ u q e n. inr (subst (λ a. MatchResult a (λ p. IsOfPlan p q) (λ f. ⊥)) (sym e) n)) had h

    -- the flow file was refused, or reading it stopped
    pub no_flow : (s : Stop) → IfSome y (λ files. Reads {T = Vec FlowRow Global} (λ v. v.items) (λ q. (plan_value plan).flow ≡ Some q) (Err s) (rows_in files [] flow_of (plan_value plan).flow)) → IfSome x (λ files. Reads inputs_value (IsReadFor file files) (Err s) (check_inputs_in files file))
    no_flow s h =
        behind_plan (Err s) (first_stops (List FlowRow) CheckInputs (Vec FlowRow Global) code.CheckInputs Flows (λ files flow. with_words files (plan_value plan) flow) (λ v. v.items) inputs_value (λ files q. (plan_value plan).flow ≡ Some q) Named s y (λ u q n. inl n) h)

    module _ (flow : Vec FlowRow Global) (z : Option Files) (again : z ≡ y) (read : IfSome y (λ files. rows_in files [] flow_of (plan_value plan).flow ≡ Ok flow.items)) where
      abbrev Words : Files → Result (List RxWord) Refusal
      Words files = words_in files (words_name (plan_value plan).out)

      abbrev together : Files → List RxWord → Result CheckInputs Refusal
      together files words = Ok (record { plan = plan_value plan; flow = flow.items; words = words })

      behind_flow : (r : Result code.CheckInputs Stop) → IfSome z (λ files. Reads inputs_value (IsOfPlan (plan_value plan)) r (with_words files (plan_value plan) flow.items)) → IfSome x (λ files. Reads inputs_value (IsReadFor file files) r (check_inputs_in files file))
      behind_flow r h =
          behind_plan r (second_reads (List FlowRow) CheckInputs (Vec FlowRow Global) code.CheckInputs Flows (λ files rows. with_words files (plan_value plan) rows) inputs_value Named Named flow.items r y z again (λ u q e n. n) read h)

      -- the words were refused, or reading them stopped
      pub no_words : (s : Stop) → IfSome z (λ files. Reads (λ (ws : List RxWord). ws) (λ q. q ≡ words_name (plan_value plan).out) (Err s) (words_in files (words_name (plan_value plan).out))) → IfSome x (λ files. Reads inputs_value (IsReadFor file files) (Err s) (check_inputs_in files file))
      no_words s h =
          behind_flow (Err s) (first_stops (List RxWord) CheckInputs (List RxWord) code.CheckInputs Words together (λ ws. ws) inputs_value (λ files q. q ≡ words_name (plan_value plan).out) Named s z (λ u q n. inr n) h)

      -- all were read
      pub all_read : (words : List RxWord) → IfSome z (λ files. words_in files (words_name (plan_value plan).out) ≡ Ok words) → IfSome x (λ files. check_inputs_in files file ≡ Ok (record { plan = plan_value plan; flow = flow.items; words = words }))
      all_read words h =
          behind_flow (Ok (record { plan = plan; flow = flow; words = words })) (if_told_by z (λ u k. ap (λ r. behind r (together u)) k) h)

-- memory ran out, which says nothing of the files
pub out_of_memory : (x : Option Files) → IfSome x (λ files. Unit {0})
out_of_memory None = tt
out_of_memory (Some u) = tt
