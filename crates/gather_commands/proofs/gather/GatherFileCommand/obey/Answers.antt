use Rattle.std.proofs.Common.{◌≡◌, sym, subst, List, ℕ, IfSome, Ok}
use Rattle.std.proofs.lemmas.Result.{err_from_is_err_and}
use Rattle.link_plan.specs.Plan.{PlanValue}
use Rattle.link_plan.specs.Views.{plan_value}
use Rattle.run_shell.proofs.Works.{reading_ends}
use Rattle.receive_commands.specs.Receive.{IsReceiveInput, PlanLanes, lanes_in}
use Rattle.lane_receipts.specs.LaneReports.{names_of_lanes}
use Rattle.receive_commands.proofs.LanesRead.{lanes_come, lanes_leave}
use Rattle.gather_commands.specs.Table.{gathered_names}
use Rattle.gather_commands.specs.Gather.{IsGathered, gather_work}
use Rattle.gather_commands.proofs.Gathers.{gather_means}
use Rattle.gather_commands.proofs.gather.GatherFileCommand.obey.Goals as goal

pub returns-in_err-read-clause-lawful : goal.returns-in_err-read-clause-lawful
returns-in_err-read-clause-lawful g c = gather_means c.args.file.now

pub returns-in_err-read-clause-comes : goal.returns-in_err-read-clause-comes
returns-in_err-read-clause-comes g c =
    let p = err_from_is_err_and c.from_residual.result c.from_residual.ensures.1 in
    rw (p.1, p.2) (reading_ends PlanLanes (gather_work c.args.file.now) (λ v. v) (IsReceiveInput c.args.file.now) c.in_err-read.field-0.0 _ _ c.in_err-read.ensures.unchanged (λ u q e. e) c.in_err-read.ensures.reads)

pub gather_lanes-finished-requires-clause-there : goal.gather_lanes-finished-requires-clause-there
gather_lanes-finished-requires-clause-there g c =
    subst (λ x. IfSome x (λ files. (lanes : List (List ℕ)) × (lanes_in files (names_of_lanes (plan_value c.in_ok-read.read.plan)) ≡ Ok lanes))) (sym c.in_ok-read.ensures.unchanged) c.in_ok-read.ensures.there

pub returns-clause-lawful : goal.returns-clause-lawful
returns-clause-lawful g c = gather_means c.args.file.now

pub returns-clause-comes : goal.returns-clause-comes
returns-clause-comes g c =
    lanes_come IsGathered (λ (plan : PlanValue). gathered_names plan.out) c.args.file.now (plan_value c.in_ok-read.read.plan) c.gather_lanes-finished.result _ _ _ c.in_ok-read.ensures.unchanged c.in_ok-read.ensures.plan c.in_ok-read.ensures.there c.gather_lanes-finished.ensures.others c.gather_lanes-finished.ensures.fills

pub returns-clause-others : goal.returns-clause-others
returns-clause-others g c =
    lanes_leave IsGathered (λ (plan : PlanValue). gathered_names plan.out) c.args.file.now (plan_value c.in_ok-read.read.plan) _ _ _ c.in_ok-read.ensures.unchanged c.in_ok-read.ensures.plan c.in_ok-read.ensures.there c.gather_lanes-finished.ensures.others
