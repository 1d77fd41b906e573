use Rattle.std.proofs.Common.{refl}
use Rattle.std.proofs.lemmas.Result.{err_from_is_err_and}
use Rattle.link_plan.specs.Views.{plan_value}
use Rattle.lane_receipts.specs.LaneReports.{names_of_lanes}
use Rattle.receive_commands.proofs.LanesRead.{both_there, lanes_there, no_lanes, no_plan}
use Rattle.receive_commands.proofs.receive.read_plan_lanes.Goals as goal

pub returns-in_err-plan-clause-reads : goal.returns-in_err-plan-clause-reads
returns-in_err-plan-clause-reads g c =
    let p = err_from_is_err_and c.from_residual.result c.from_residual.ensures.1 in
    rw (p.1, p.2) (no_plan c.args.file.now c.in_err-plan.field-0.0 _ c.in_err-plan.ensures.reads)

pub returns-in-Err-clause-reads : goal.returns-in-Err-clause-reads
returns-in-Err-clause-reads g c =
    no_lanes c.args.file.now _ _ c.in_ok-plan.ensures.unchanged c.in_ok-plan.plan c.in_ok-plan.ensures.reads (names_of_lanes (plan_value c.in_ok-plan.plan)) refl c.in-Err.stop c.in-Err.ensures.probes

pub returns-in-Ok-clause-names : goal.returns-in-Ok-clause-names
returns-in-Ok-clause-names g c = c.in-Ok.ensures.names

pub returns-in-Ok-clause-there : goal.returns-in-Ok-clause-there
returns-in-Ok-clause-there g c =
    lanes_there c.args.file.now _ _ c.in_ok-plan.ensures.unchanged c.in_ok-plan.plan c.in_ok-plan.ensures.reads (names_of_lanes (plan_value c.in_ok-plan.plan)) refl c.in-Ok.ensures.probes

pub returns-in-Ok-clause-reads : goal.returns-in-Ok-clause-reads
returns-in-Ok-clause-reads g c =
    both_there c.args.file.now _ (plan_value c.in_ok-plan.plan) c.in_ok-plan.ensures.reads
    (lanes_there c.args.file.now _ _ c.in_ok-plan.ensures.unchanged c.in_ok-plan.plan c.in_ok-plan.ensures.reads (names_of_lanes (plan_value c.in_ok-plan.plan)) refl c.in-Ok.ensures.probes)
