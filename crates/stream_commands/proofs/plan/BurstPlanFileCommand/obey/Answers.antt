use Rattle.std.proofs.Common.{[], ◌∷◌, string_bytes}
use Rattle.std.proofs.lemmas.Result.{err_from_is_err_and}
use Rattle.run_shell.proofs.Writing.{writes_comes, writes_leaves}
use Rattle.run_shell.proofs.Works.{reading_ends}
use Rattle.plan_inputs.specs.Inputs.{IsRead}
use Rattle.plan_inputs.specs.Values.{reading_value}
use Rattle.plan_inputs.specs.declared.inputs.PlanReading.{PlanReading}
use Rattle.run_shell.specs.Names.{words_name}
use Rattle.stream_commands.specs.Plan.{burst_plan_work}
use Rattle.run_shell.proofs.OutputNames.{one_name}
use Rattle.stream_commands.proofs.PlanWork.{burst_means}
use Rattle.stream_commands.proofs.plan.BurstPlanFileCommand.obey.Goals as goal

pub returns-in_err-reading-clause-lawful : goal.returns-in_err-reading-clause-lawful
returns-in_err-reading-clause-lawful g c = burst_means c.args.file.now

pub returns-clause-lawful : goal.returns-clause-lawful
returns-clause-lawful g c = burst_means c.args.file.now

pub returns-in_err-reading-clause-comes : goal.returns-in_err-reading-clause-comes
returns-in_err-reading-clause-comes g c =
    let p = err_from_is_err_and c.from_residual.result c.from_residual.ensures.1 in
    rw (p.1, p.2) (reading_ends PlanReading (burst_plan_work c.args.file.now) reading_value (λ files. IsRead files c.args.file.now) c.in_err-reading.field-0.0 _ _ c.in_err-reading.ensures.unchanged (λ u q h. h) c.in_err-reading.ensures.reads)

pub returns-clause-comes : goal.returns-clause-comes
returns-clause-comes g c =
    let name = c.args.file.now in
    let out = string_bytes c.in_ok-reading.reading.plan.out in
    writes_comes (burst_plan_work name) (reading_value c.in_ok-reading.reading) (words_name out ∷ []) (λ q h. one_name (words_name out) q h) c.write_plan-finished.result _ _ _ c.in_ok-reading.ensures.unchanged c.in_ok-reading.ensures.reads c.write_plan-finished.ensures.writes

pub returns-clause-others : goal.returns-clause-others
returns-clause-others g c =
    let name = c.args.file.now in
    let out = string_bytes c.in_ok-reading.reading.plan.out in
    writes_leaves (burst_plan_work name) (reading_value c.in_ok-reading.reading) (words_name out ∷ []) (λ q h. one_name (words_name out) q h) c.write_plan-finished.result _ _ _ c.in_ok-reading.ensures.unchanged c.in_ok-reading.ensures.reads c.write_plan-finished.ensures.writes

pub returns-in_err-reading-clause-cause : goal.returns-in_err-reading-clause-cause
returns-in_err-reading-clause-cause g c =
    let p = err_from_is_err_and c.from_residual.result c.from_residual.ensures.1 in
    rw (p.1, p.2) c.in_err-reading.ensures.cause
