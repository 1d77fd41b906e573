use Rattle.std.proofs.lemmas.Result.{err_from_is_err_and}
use Rattle.link_plan.specs.Views.{plan_value}
use Rattle.run_shell.proofs.Works.{reading_ends}
use Rattle.run_shell.proofs.Writing.{writes_comes, writes_leaves}
use Rattle.join_commands.specs.JoinPlan.{IsReadFor, join_plan_work}
use Rattle.receipts.specs.Settings.{plan_names}
use Rattle.join_commands.specs.PlanWords.{words_value}
use Rattle.join_commands.proofs.Joins.{join_plan_means}
use Rattle.join_commands.proofs.join_plan.JoinPlanFileCommand.obey.Goals as goal

pub returns-in_err-read-clause-lawful : goal.returns-in_err-read-clause-lawful
returns-in_err-read-clause-lawful g c = join_plan_means c.args.file.now

pub returns-in_err-read-clause-comes : goal.returns-in_err-read-clause-comes
returns-in_err-read-clause-comes g c =
    let p = err_from_is_err_and c.from_residual.result c.from_residual.ensures.1 in
    rw (p.1, p.2) (reading_ends _ (join_plan_work _) words_value (IsReadFor c.args.file.now) c.in_err-read.field-0.0 _ _ c.in_err-read.ensures.unchanged (λ u q e. e) c.in_err-read.ensures.reads)

pub returns-clause-lawful : goal.returns-clause-lawful
returns-clause-lawful g c = join_plan_means c.args.file.now

pub returns-clause-comes : goal.returns-clause-comes
returns-clause-comes g c =
    writes_comes (join_plan_work c.args.file.now) (words_value c.in_ok-read.read) (plan_names (plan_value c.in_ok-read.read.plan)) (λ q h. h) c.write_plan_words-finished.result _ _ _ c.in_ok-read.ensures.unchanged c.in_ok-read.ensures.reads c.write_plan_words-finished.ensures.writes

pub returns-clause-others : goal.returns-clause-others
returns-clause-others g c =
    writes_leaves (join_plan_work c.args.file.now) (words_value c.in_ok-read.read) (plan_names (plan_value c.in_ok-read.read.plan)) (λ q h. h) c.write_plan_words-finished.result _ _ _ c.in_ok-read.ensures.unchanged c.in_ok-read.ensures.reads c.write_plan_words-finished.ensures.writes
