use Rattle.std.proofs.Common.{refl}
use Rattle.std.proofs.lemmas.Result.{err_from_is_err_and}
use Rattle.link_plan.specs.Views.{plan_value}
use Rattle.run_shell.specs.Names.{words_name}
use Rattle.lane_commands.proofs.StripeWork.{both_read, no_plan, no_words}
use Rattle.lane_commands.proofs.plan_words.read_plan_words.Goals as goal

pub returns-in_err-plan-clause-reads : goal.returns-in_err-plan-clause-reads
returns-in_err-plan-clause-reads g c =
    let p = err_from_is_err_and c.from_residual.result c.from_residual.ensures.1 in
    rw (p.1, p.2) (no_plan c.args.file.now c.in_err-plan.field-0.0 _ c.in_err-plan.ensures.reads)

pub returns-in-Err-clause-reads : goal.returns-in-Err-clause-reads
returns-in-Err-clause-reads g c =
    no_words c.args.file.now _ _ c.in_ok-plan.ensures.unchanged c.in_ok-plan.plan c.in_ok-plan.ensures.reads (words_name (plan_value c.in_ok-plan.plan).out) refl c.in-Err.stop c.in-Err.ensures.reads

pub returns-in-Ok-clause-reads : goal.returns-in-Ok-clause-reads
returns-in-Ok-clause-reads g c =
    both_read c.args.file.now _ _ c.in_ok-plan.ensures.unchanged c.in_ok-plan.plan c.in_ok-plan.ensures.reads (words_name (plan_value c.in_ok-plan.plan).out) refl c.in-Ok.words c.in-Ok.ensures.reads
