-- What `damage FILE` reads: a plan, the schedule that it names, and its lanes, each whole.
use Rattle.std.specs.Prelude.{◌≡◌, ◌⊎◌, ℕ, List, [], ◌∷◌, Some, Result, Ok, MatchResult, Contains}
use Rattle.lk_outside.specs.Files.{Files}
use Rattle.link_plan.specs.Plan.{PlanValue}
use Rattle.link_plan.specs.Schedules.{ScheduleValue}
use Rattle.plan_inputs.specs.Inputs.{plan_in, schedule_in}
use Rattle.run_stops.specs.Reading.{Refusal, behind, bytes_in}
use Rattle.lane_receipts.specs.LaneReports.{names_of_lanes}
use Rattle.damage_commands.specs.declared.inputs.TheConstants.{WHOLE_LANE_LIMIT}

-- the most bytes of a lane that is read whole
abbrev pub whole_lane_limit : ℕ
whole_lane_limit = WHOLE_LANE_LIMIT

-- the bytes of the lanes in the files of these names, in their order; or the first that is absent or too large
unfoldable pub lanes_in : Files → List (List ℕ) → Result (List (List ℕ)) Refusal
lanes_in files [] = Ok []
lanes_in files (name ∷ names) =
    behind (bytes_in files name whole_lane_limit) (λ bytes. behind (lanes_in files names) (λ lanes. Ok (bytes ∷ lanes)))

-- a plan, what happens to its lanes, and the bytes of these, by number
pub record DamageInputs : Type 0 where
  pub plan : PlanValue
  pub schedule : ScheduleValue
  pub lanes : List (List ℕ)

abbrev pub with_lanes : Files → PlanValue → ScheduleValue → Result DamageInputs Refusal
with_lanes files plan schedule =
    behind (lanes_in files (names_of_lanes plan)) (λ lanes. Ok (record { plan = plan; schedule = schedule; lanes = lanes }))

abbrev pub with_schedule : Files → PlanValue → Result DamageInputs Refusal
with_schedule files plan = behind (schedule_in files plan) (with_lanes files plan)

-- the plan in the file of this name, after it its schedule, where the plan names one, and then its lanes
abbrev pub damage_inputs_in : Files → List ℕ → Result DamageInputs Refusal
damage_inputs_in files name = behind (plan_in files name) (with_schedule files)

-- the schedule file of a plan, or the file of one of its lanes
abbrev pub IsOfPlan : PlanValue → List ℕ → Type 0
IsOfPlan plan q = (plan.schedule ≡ Some q) ⊎ Contains (names_of_lanes plan) q

-- the plan's own file, and where it is accepted its schedule file and the files of its lanes
abbrev pub IsReadFor : List ℕ → Files → List ℕ → Type 0
IsReadFor name files q = (q ≡ name) ⊎ MatchResult (plan_in files name) (λ plan. IsOfPlan plan q) (λ r. ⊥)
