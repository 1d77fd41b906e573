-- What `inspect FILE` means, where FILE is a plan.
use Rattle.std.specs.Prelude.{◌≡◌, ℕ, List, [], ◌∷◌, ◌++◌, length, sum_by}
use lib.Chars.{codes}
use Rattle.lk_base.specs.Checksum.{bits_of_bytes}
use Rattle.lk_base.specs.Link.{Settings}
use Rattle.lock_model.specs.declared.types.LaneReport.{LaneReport}
use Rattle.link_reports.specs.Lines.{count_line}
use Rattle.run_shell.specs.declared.status.Status.TheVariants.{Done}
use Rattle.run_shell.specs.Outcome.{Outcome}
use Rattle.run_shell.specs.Meaning.{Meaning}
use Rattle.run_shell.specs.Work.{Work, meaning_by}
use Rattle.lane_receipts.specs.LaneReports.{AreLaneReports, lane_lines}
use Rattle.receive_commands.specs.Receive.{PlanLanes, lanes_work}
use Rattle.lane_events.specs.declared.types.LaneEvent.{LaneEvent}
use Rattle.lane_events.specs.Events.{AreLaneEvents}
use Rattle.inspect_commands.specs.Table.{events_table}

-- these are the events of each lane with these bytes, all of its bits, in order of the lanes
abbrev pub AreEventsOfLanes : Settings → List (List ℕ) → List (List LaneEvent) → Type 0
AreEventsOfLanes s [] [] = Unit {0}
AreEventsOfLanes s (bytes ∷ lanes) (events ∷ rest) = AreLaneEvents s (bits_of_bytes bytes) events × AreEventsOfLanes s lanes rest
AreEventsOfLanes s lanes rest = ⊥

-- the name of the table
abbrev pub events_name : List ℕ → List ℕ
events_name out = out ++ codes ".events.csv"

-- the line of the report of each lane, and then how many events there are
abbrev pub inspected_text : List LaneReport → List (List LaneEvent) → List ℕ
inspected_text reports events = lane_lines 0 reports ++ count_line (codes "events") (sum_by length events)

-- the one table of these events, under a prefix, and the text
abbrev pub inspected_outcome : List ℕ → List LaneReport → List (List LaneEvent) → Outcome
inspected_outcome out reports events = record {
  status = Done;
  files = record { name = events_name out; content = events_table events } ∷ [];
  text = inspected_text reports events;
}

-- what the lanes of a plan come to: the table of their events, and the lines of their reports before the number of the events
pub record IsInspected (i : PlanLanes) (o : Outcome) : Type 0 where
  pub reports : List LaneReport
  pub are_reports : AreLaneReports i.plan.settings i.lanes reports
  pub events : List (List LaneEvent)
  pub are_events : AreEventsOfLanes i.plan.settings i.lanes events
  pub is : o ≡ inspected_outcome i.plan.out reports events

-- The plan and its lanes are read as by `receive`. The events of the lanes become a table, under a name that begins with the plan's
-- `out`. Lanes that show faults are an answer, too: no stream is held.
abbrev pub inspect_work : List ℕ → Work
inspect_work name = lanes_work IsInspected (λ plan. events_name plan.out ∷ []) name

abbrev pub inspect_meaning : List ℕ → Meaning
inspect_meaning name = meaning_by (inspect_work name)
