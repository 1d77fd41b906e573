-- `inspect`: what its lanes come to.
use Rattle.std.proofs.Common.{◌≡◌, ℕ, List, refl, sym, ap, ◌∙◌, inr}
use Rattle.lock_model.specs.declared.types.LaneReport.{LaneReport}
use Rattle.run_shell.specs.Outcome.{Outcome}
use Rattle.run_shell.specs.Meaning.{IsMeaning}
use Rattle.run_shell.specs.Work.{IsWork}
use Rattle.run_shell.proofs.Works.{is_meaning}
use Rattle.lane_receipts.proofs.Reports.{same_reports, some_reports}
use Rattle.receive_commands.specs.Receive.{PlanLanes}
use Rattle.lane_events.specs.declared.types.LaneEvent.{LaneEvent}
use Rattle.inspect_commands.specs.Inspect.{IsInspected, inspect_meaning, inspect_work, inspected_outcome}
use Rattle.inspect_commands.proofs.LaneByLane.{same_lanes, some_lanes}

pub one_inspected : (i : PlanLanes) (o p : Outcome) → IsInspected i o → IsInspected i p → o ≡ p
one_inspected i o p h k =
    let e = same_lanes i.plan.settings i.lanes h.events k.events h.are_events k.are_events in
    let f = same_reports i.plan.settings i.lanes h.reports k.reports h.are_reports k.are_reports in
    h.is ∙ ap (λ (x : List LaneReport). inspected_outcome i.plan.out x h.events) f
    ∙ ap (λ (x : List (List LaneEvent)). inspected_outcome i.plan.out k.reports x) e ∙ sym k.is

some_inspected : (i : PlanLanes) → (o : Outcome) × IsInspected i o
some_inspected i =
    let (reports, reported) = some_reports i.plan.settings i.lanes in
    let (events, are) = some_lanes i.plan.settings i.lanes in (
      inspected_outcome i.plan.out reports events,
      record { reports = reports; are_reports = reported; events = events; are_events = are; is = refl },
    )

pub is_work : (name : List ℕ) → IsWork (inspect_work name)
is_work name = record {
  one_made = one_inspected;
  some_made = λ files bytes i is. some_inspected i;
  made_status = λ i o h. inr (ap (λ (p : Outcome). p.status) h.is, λ x. x);
}

pub inspect_means : (name : List ℕ) → IsMeaning (inspect_meaning name)
inspect_means name = is_meaning (inspect_work name) (is_work name)
