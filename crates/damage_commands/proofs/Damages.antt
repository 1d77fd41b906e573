-- `damage`: its outcomes, and the readings before it.
use Rattle.std.proofs.Common.{◌≡◌, ◌∙◌, ℕ, List, map, refl, sym, ap, subst, Option, Some, None, IfSome, Result, Ok, Err, MatchResult, Contains, Vec, Global, inl, inr}
use Rattle.lk_outside.specs.Files.{Files}
use Rattle.link_plan.specs.Plan.{PlanValue}
use Rattle.link_plan.specs.Schedules.{ScheduleValue}
use Rattle.link_plan.specs.ScheduleViews.{schedule_value}
use Rattle.link_plan.specs.Views.{plan_value}
use Rattle.link_plan.specs.declared.plan.Plan.{Plan}
use Rattle.link_plan.specs.declared.schedule.Schedule.{Schedule}
use Rattle.plan_inputs.specs.Inputs.{plan_in, schedule_in}
use Rattle.run_stops.specs.declared.stop.Stop.{Stop}
use Rattle.run_stops.specs.Reading.{Reads, Refusal, behind, vec_items}
use Rattle.run_stops.proofs.Moves.{if_told_by}
use Rattle.run_stops.proofs.Readings.{first_stops, second_reads}
use Rattle.run_shell.specs.declared.status.Status.TheVariants.{Done}
use Rattle.run_shell.specs.Outcome.{Outcome}
use Rattle.run_shell.specs.Outputs.{outs}
use Rattle.run_shell.specs.Meaning.{IsMeaning}
use Rattle.run_shell.specs.Work.{IsWork}
use Rattle.run_shell.proofs.Works.{is_meaning}
use Rattle.stream_commands.proofs.OneOutcome.{same_parts}
use Rattle.lane_receipts.specs.LaneReports.{names_of_lanes}
use Rattle.damage_commands.specs.PlanLanes.{DamageInputs, IsOfPlan, IsReadFor, damage_inputs_in, lanes_in, with_lanes, with_schedule}
use Rattle.damage_commands.specs.Damage.{IsDamaged, damage_meaning, damage_work, damaged_names, lines_from}
use Rattle.damage_commands.specs.Values.{inputs_value}
use Rattle.damage_commands.specs.declared.inputs.DamageInputs as code
use Rattle.damage_commands.proofs.Arrived.{one_arrived, some_arrived}

-- ---- the work

pub one_made : (i : DamageInputs) (o p : Outcome) → IsDamaged i o → IsDamaged i p → o ≡ p
one_made i o p h k =
    let one : h.received ≡ k.received = one_arrived i.schedule i.lanes h.received k.received h.are k.are in
    same_parts o p (h.status ∙ sym k.status) (h.files ∙ ap (λ (contents : List (List ℕ)). outs (damaged_names i.plan) contents) one ∙ sym k.files) (h.text ∙ sym k.text)

some_made : (i : DamageInputs) → (o : Outcome) × IsDamaged i o
some_made i =
    let (received, are) = some_arrived i.schedule i.lanes in
    (record { status = Done; files = outs (damaged_names i.plan) received; text = lines_from i.schedule 0 i.lanes }, record { received = received; are = are; status = refl; files = refl; text = refl })

pub is_work : (name : List ℕ) → IsWork (damage_work name)
is_work name = record {
  one_made = one_made;
  some_made = λ files bytes i is. some_made i;
  made_status = λ i o h. inr (h.status, λ x. x);
}

pub damage_means : (name : List ℕ) → IsMeaning (damage_meaning name)
damage_means name = is_meaning (damage_work name) (is_work name)

-- ---- a plan, its schedule file and its lanes

module _ (file : List ℕ) where
  -- the plan was refused, or reading it stopped
  pub no_plan : (s : Stop) (x : Option Files) → IfSome x (λ files. Reads plan_value (λ n. n ≡ file) (Err s) (plan_in files file)) → IfSome x (λ files. Reads inputs_value (IsReadFor file files) (Err s) (damage_inputs_in files file))
  no_plan s x h = first_stops PlanValue DamageInputs Plan code.DamageInputs (λ files. plan_in files file) with_schedule plan_value inputs_value (λ files n. n ≡ file) (IsReadFor file) s x (λ u q n. inl n) h

  module _ (plan : Plan) (x y : Option Files) (same : y ≡ x) (had : IfSome x (λ files. plan_in files file ≡ Ok (plan_value plan))) where
    abbrev Schedules : Files → Result ScheduleValue Refusal
    Schedules files = schedule_in files (plan_value plan)

    abbrev Named : Files → List ℕ → Type 0
    Named files q = IsOfPlan (plan_value plan) q

    behind_plan : (r : Result code.DamageInputs Stop) → IfSome y (λ files. Reads inputs_value (IsOfPlan (plan_value plan)) r (with_schedule files (plan_value plan))) → IfSome x (λ files. Reads inputs_value (IsReadFor file files) r (damage_inputs_in files file))
    behind_plan r h =
        second_reads PlanValue DamageInputs Plan code.DamageInputs (λ files. plan_in files file) with_schedule inputs_value Named (IsReadFor file) (plan_value plan) r x y same
        (λ u q e n. inr (subst (λ a. MatchResult a (λ p. IsOfPlan p q) (λ f. ⊥)) (sym e) n)) had h

    -- the schedule was refused, or reading it stopped
    pub no_schedule : (s : Stop) → IfSome y (λ files. Reads schedule_value (λ q. (plan_value plan).schedule ≡ Some q) (Err s) (schedule_in files (plan_value plan))) → IfSome x (λ files. Reads inputs_value (IsReadFor file files) (Err s) (damage_inputs_in files file))
    no_schedule s h =
        behind_plan (Err s) (first_stops ScheduleValue DamageInputs Schedule code.DamageInputs Schedules (λ files schedule. with_lanes files (plan_value plan) schedule) schedule_value inputs_value (λ files q. (plan_value plan).schedule ≡ Some q) Named s y (λ u q n. inl n) h)

    module _ (schedule : Schedule) (z : Option Files) (again : z ≡ y) (read : IfSome y (λ files. schedule_in files (plan_value plan) ≡ Ok (schedule_value schedule))) where
      abbrev Lanes : Files → Result (List (List ℕ)) Refusal
      Lanes files = lanes_in files (names_of_lanes (plan_value plan))

      abbrev together : Files → List (List ℕ) → Result DamageInputs Refusal
      together files lanes = Ok (record { plan = plan_value plan; schedule = schedule_value schedule; lanes = lanes })

      behind_schedule : (r : Result code.DamageInputs Stop) → IfSome z (λ files. Reads inputs_value (IsOfPlan (plan_value plan)) r (with_lanes files (plan_value plan) (schedule_value schedule))) → IfSome x (λ files. Reads inputs_value (IsReadFor file files) r (damage_inputs_in files file))
      behind_schedule r h =
          behind_plan r (second_reads ScheduleValue DamageInputs Schedule code.DamageInputs Schedules (λ files value. with_lanes files (plan_value plan) value) inputs_value Named Named (schedule_value schedule) r y z again (λ u q e n. n) read h)

      -- a lane was refused, or reading it stopped
      pub no_lanes : (s : Stop) → IfSome z (λ files. Reads {T = Vec (Vec ℕ Global) Global} (λ lanes. map vec_items lanes.items) (Contains (names_of_lanes (plan_value plan))) (Err s) (lanes_in files (names_of_lanes (plan_value plan)))) → IfSome x (λ files. Reads inputs_value (IsReadFor file files) (Err s) (damage_inputs_in files file))
      no_lanes s h =
          behind_schedule (Err s) (first_stops (List (List ℕ)) DamageInputs (Vec (Vec ℕ Global) Global) code.DamageInputs Lanes together (λ lanes. map vec_items lanes.items) inputs_value (λ files q. Contains (names_of_lanes (plan_value plan)) q) Named s z (λ u q n. inr n) h)

      -- all were read
      pub all_read : (lanes : Vec (Vec ℕ Global) Global) → IfSome z (λ files. lanes_in files (names_of_lanes (plan_value plan)) ≡ Ok (map vec_items lanes.items)) → IfSome x (λ files. damage_inputs_in files file ≡ Ok (inputs_value (record { plan = plan; schedule = schedule; lanes = lanes })))
      all_read lanes h =
          behind_schedule (Ok (record { plan = plan; schedule = schedule; lanes = lanes })) (if_told_by z (λ u k. ap (λ r. behind r (together u)) k) h)

-- memory ran out, which says nothing of the files
pub out_of_memory : (x : Option Files) → IfSome x (λ files. Unit {0})
out_of_memory None = tt
out_of_memory (Some u) = tt
