-- What `receive FILE` means, where FILE is a plan.
use Rattle.std.specs.Prelude.{◌≡◌, ◌⊎◌, ℕ, List, [], ◌∷◌, Result, Ok, MatchResult, Contains}
use Rattle.lk_base.specs.Limits.{lane_limit}
use Rattle.lk_base.specs.Link.{IsLink}
use Rattle.lk_outside.specs.Files.{Files}
use Rattle.lock_model.specs.declared.types.LaneReport.{LaneReport}
use Rattle.receive_model.specs.Events.{Event, Setting}
use Rattle.event_model.specs.Given.{AreEvents}
use Rattle.link_plan.specs.Plan.{PlanValue}
use Rattle.plan_inputs.specs.Inputs.{plan_in}
use Rattle.run_shell.specs.Outcome.{Outcome}
use Rattle.run_shell.specs.Meaning.{Meaning}
use Rattle.run_stops.specs.Reading.{Refusal, behind, bytes_in}
use Rattle.run_shell.specs.Work.{Work, meaning_by}
use Rattle.receipts.specs.Received.{received_outcome}
use Rattle.lane_receipts.specs.LaneReports.{AreLaneReports, lane_lines, names_of_lanes}
use Rattle.receipts.specs.Settings.{IsSettingOf, plan_names}

-- ---- the plan and its lanes

-- the bytes of the lanes in the files of these names, in their order; or the first that is absent or too large
unfoldable pub lanes_in : Files → List (List ℕ) → Result (List (List ℕ)) Refusal
lanes_in files [] = Ok []
lanes_in files (name ∷ names) = behind (bytes_in files name lane_limit) (λ bytes. behind (lanes_in files names) (λ lanes. Ok (bytes ∷ lanes)))

-- a plan and the bytes of its lanes, by number
pub record PlanLanes : Type 0 where
  pub plan : PlanValue
  pub lanes : List (List ℕ)

abbrev pub with_lanes : Files → PlanValue → Result PlanLanes Refusal
with_lanes files plan = behind (lanes_in files (names_of_lanes plan)) (λ lanes. Ok (record { plan = plan; lanes = lanes }))

-- the plan in the file of this name, and after it the bytes of its lanes
abbrev pub plan_lanes_in : Files → List ℕ → Result PlanLanes Refusal
plan_lanes_in files name = behind (plan_in files name) (with_lanes files)

-- where the plan is accepted, the files of its lanes
abbrev pub IsLaneInput : List ℕ → Files → List ℕ → Type 0
IsLaneInput name files q = MatchResult (plan_in files name) (λ plan. Contains (names_of_lanes plan) q) (λ r. ⊥)

-- the plan's own file, and where it is accepted the files of its lanes
abbrev pub IsReceiveInput : List ℕ → Files → List ℕ → Type 0
IsReceiveInput name files q = (q ≡ name) ⊎ IsLaneInput name files q

-- ---- what they come to

-- What the lanes of a plan come to: the captures and the span table of the events of their bits, and the lines of their reports
-- before those of what came.
pub record IsReceived (i : PlanLanes) (o : Outcome) : Type 0 where
  -- as of every plan that is accepted
  pub link : IsLink i.plan.settings
  pub setting : Setting
  pub is_setting : IsSettingOf i.plan setting
  pub events : List Event
  pub are_events : AreEvents i.plan.settings setting i.lanes events
  pub reports : List LaneReport
  pub are_reports : AreLaneReports i.plan.settings i.lanes reports
  pub is : o ≡ received_outcome setting i.plan.link_type i.plan.out (lane_lines 0 reports) events

-- A plan and its lanes are read, these are made of them, and files of these names are created. The lanes are asked for before, and
-- read after that. No stream is held.
abbrev pub lanes_work : (PlanLanes → Outcome → Type 0) → (PlanValue → List (List ℕ)) → List ℕ → Work
lanes_work IsMade names name = record {
  Inputs = PlanLanes;
  inputs_in = λ files. plan_lanes_in files name;
  IsMade = IsMade;
  IsHeld = λ i. ⊥;
  Creates = λ i q. Contains (names i.plan) q;
  Names = IsReceiveInput name;
  IsReadLate = IsLaneInput name;
}

-- The lanes of the plan become the captures of its channels by number, of its link type, and the span table, under names that
-- begin with its `out`.
abbrev pub receive_work : List ℕ → Work
receive_work name = lanes_work IsReceived plan_names name

abbrev pub receive_meaning : List ℕ → Meaning
receive_meaning name = meaning_by (receive_work name)
