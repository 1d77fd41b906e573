use Rattle.std.proofs.lemmas.Result.{err_from_is_err_and}
use Rattle.check_commands.proofs.Checks.{all_read, no_flow, no_plan, no_words}
use Rattle.check_commands.proofs.inputs.read_check_inputs.Goals as goal

pub returns-in_err-plan-clause-reads : goal.returns-in_err-plan-clause-reads
returns-in_err-plan-clause-reads g c =
    let p = err_from_is_err_and c.from_residual.result c.from_residual.ensures.1 in
    rw (p.1, p.2) (no_plan c.args.file.now c.in_err-plan.field-0.0 _ c.in_err-plan.ensures.reads)

pub returns-in-Err-clause-reads : goal.returns-in-Err-clause-reads
returns-in-Err-clause-reads g c = no_flow c.args.file.now c.in_ok-plan.plan _ _ c.in_ok-plan.ensures.unchanged c.in_ok-plan.ensures.reads c.in-Err.stop c.in-Err.ensures.reads

pub returns-in-Err-read_plan_words-clause-reads : goal.returns-in-Err-read_plan_words-clause-reads
returns-in-Err-read_plan_words-clause-reads g c = no_words c.args.file.now c.in_ok-plan.plan _ _ c.in_ok-plan.ensures.unchanged c.in_ok-plan.ensures.reads c.in-Ok.flow _ c.in-Ok.ensures.unchanged c.in-Ok.ensures.reads c.in-Err-read_plan_words.stop c.in-Err-read_plan_words.ensures.reads

pub returns-in-Ok-read_plan_words-clause-reads : goal.returns-in-Ok-read_plan_words-clause-reads
returns-in-Ok-read_plan_words-clause-reads g c =
    all_read c.args.file.now c.in_ok-plan.plan _ _ c.in_ok-plan.ensures.unchanged c.in_ok-plan.ensures.reads c.in-Ok.flow _ c.in-Ok.ensures.unchanged c.in-Ok.ensures.reads c.in-Ok-read_plan_words.words c.in-Ok-read_plan_words.ensures.reads
