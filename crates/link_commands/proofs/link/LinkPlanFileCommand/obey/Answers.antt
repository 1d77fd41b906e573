use Rattle.std.proofs.lemmas.Result.{err_from_is_err_and}
use Rattle.link_plan.specs.Views.{plan_value}
use Rattle.run_shell.proofs.Works.{reading_ends}
use Rattle.run_shell.proofs.Writing.{writes_comes, writes_leaves}
use Rattle.link_commands.specs.Inputs.{IsLinkRead}
use Rattle.link_commands.specs.Link.{link_names, link_work}
use Rattle.link_commands.specs.Values.{link_value}
use Rattle.link_commands.proofs.LinkWork.{link_means}
use Rattle.link_commands.proofs.link.LinkPlanFileCommand.obey.Goals as goal

pub returns-in_err-read-clause-lawful : goal.returns-in_err-read-clause-lawful
returns-in_err-read-clause-lawful g c = link_means c.args.file.now

pub returns-in_err-read-clause-comes : goal.returns-in_err-read-clause-comes
returns-in_err-read-clause-comes g c =
    let p = err_from_is_err_and c.from_residual.result c.from_residual.ensures.1 in
    rw (p.1, p.2) (reading_ends _ (link_work _) link_value (λ files. IsLinkRead files c.args.file.now) c.in_err-read.field-0.0 _ _ c.in_err-read.ensures.unchanged (λ u q e. e) c.in_err-read.ensures.reads)

pub returns-clause-lawful : goal.returns-clause-lawful
returns-clause-lawful g c = link_means c.args.file.now

pub returns-clause-comes : goal.returns-clause-comes
returns-clause-comes g c =
    writes_comes (link_work c.args.file.now) (link_value c.in_ok-read.read) (link_names (plan_value c.in_ok-read.read.reading.plan)) (λ q h. h) c.write_link-finished.result _ _ _ c.in_ok-read.ensures.unchanged c.in_ok-read.ensures.reads c.write_link-finished.ensures.writes

pub returns-clause-others : goal.returns-clause-others
returns-clause-others g c =
    writes_leaves (link_work c.args.file.now) (link_value c.in_ok-read.read) (link_names (plan_value c.in_ok-read.read.reading.plan)) (λ q h. h) c.write_link-finished.result _ _ _ c.in_ok-read.ensures.unchanged c.in_ok-read.ensures.reads c.write_link-finished.ensures.writes
