use Rattle.std.proofs.lemmas.Result.{err_from_is_err_and}
use Rattle.damage_commands.proofs.Damages.{all_read, no_lanes, no_plan, no_schedule}
use Rattle.damage_commands.proofs.inputs.read_damage_inputs.Goals as goal

pub returns-in_err-plan-clause-reads : goal.returns-in_err-plan-clause-reads
returns-in_err-plan-clause-reads g c =
    let p = err_from_is_err_and c.from_residual.result c.from_residual.ensures.1 in
    rw (p.1, p.2) (no_plan c.args.file.now c.in_err-plan.field-0.0 _ c.in_err-plan.ensures.reads)

pub returns-in-Err-clause-reads : goal.returns-in-Err-clause-reads
returns-in-Err-clause-reads g c = no_schedule c.args.file.now c.in_ok-plan.plan _ _ c.in_ok-plan.ensures.unchanged c.in_ok-plan.ensures.reads c.in-Err.stop c.in-Err.ensures.reads

pub returns-in-Err-read_plan_lanes-clause-reads : goal.returns-in-Err-read_plan_lanes-clause-reads
returns-in-Err-read_plan_lanes-clause-reads g c = no_lanes c.args.file.now c.in_ok-plan.plan _ _ c.in_ok-plan.ensures.unchanged c.in_ok-plan.ensures.reads c.in-Ok.schedule _ c.in-Ok.ensures.unchanged c.in-Ok.ensures.reads c.in-Err-read_plan_lanes.stop c.in-Err-read_plan_lanes.ensures.reads

pub returns-in-Ok-read_plan_lanes-clause-reads : goal.returns-in-Ok-read_plan_lanes-clause-reads
returns-in-Ok-read_plan_lanes-clause-reads g c =
    all_read c.args.file.now c.in_ok-plan.plan _ _ c.in_ok-plan.ensures.unchanged c.in_ok-plan.ensures.reads c.in-Ok.schedule _ c.in-Ok.ensures.unchanged c.in-Ok.ensures.reads c.in-Ok-read_plan_lanes.lanes c.in-Ok-read_plan_lanes.ensures.reads
