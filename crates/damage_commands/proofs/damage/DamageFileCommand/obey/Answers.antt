use Rattle.std.proofs.lemmas.Result.{err_from_is_err_and}
use Rattle.link_plan.specs.Views.{plan_value}
use Rattle.run_shell.proofs.OutputNames.{numbered_name}
use Rattle.run_shell.proofs.Works.{reading_ends}
use Rattle.run_shell.proofs.Writing.{writes_comes, writes_leaves}
use Rattle.damage_commands.specs.PlanLanes.{IsReadFor}
use Rattle.damage_commands.specs.Damage.{damage_work, damaged_names, damaged_out}
use Rattle.damage_commands.specs.Values.{inputs_value}
use Rattle.damage_commands.proofs.Damages.{damage_means}
use Rattle.damage_commands.proofs.damage.DamageFileCommand.obey.Goals as goal

pub returns-in_err-inputs-clause-lawful : goal.returns-in_err-inputs-clause-lawful
returns-in_err-inputs-clause-lawful g c = damage_means c.args.file.now

pub returns-clause-lawful : goal.returns-clause-lawful
returns-clause-lawful g c = damage_means c.args.file.now

pub returns-in_err-inputs-clause-comes : goal.returns-in_err-inputs-clause-comes
returns-in_err-inputs-clause-comes g c =
    let p = err_from_is_err_and c.from_residual.result c.from_residual.ensures.1 in
    rw (p.1, p.2) (reading_ends _ (damage_work c.args.file.now) inputs_value (IsReadFor c.args.file.now) c.in_err-inputs.field-0.0 _ _ c.in_err-inputs.ensures.unchanged (λ u q h. h) c.in_err-inputs.ensures.reads)

pub returns-clause-comes : goal.returns-clause-comes
returns-clause-comes g c =
    let plan = plan_value c.in_ok-inputs.inputs.plan in
    writes_comes (damage_work c.args.file.now) (inputs_value c.in_ok-inputs.inputs) (damaged_names plan) (λ q h. numbered_name (damaged_out plan.out) plan.settings.lanes q h) c.write_damaged-finished.result _ _ _ c.in_ok-inputs.ensures.unchanged c.in_ok-inputs.ensures.reads c.write_damaged-finished.ensures.writes

pub returns-clause-others : goal.returns-clause-others
returns-clause-others g c =
    let plan = plan_value c.in_ok-inputs.inputs.plan in
    writes_leaves (damage_work c.args.file.now) (inputs_value c.in_ok-inputs.inputs) (damaged_names plan) (λ q h. numbered_name (damaged_out plan.out) plan.settings.lanes q h) c.write_damaged-finished.result _ _ _ c.in_ok-inputs.ensures.unchanged c.in_ok-inputs.ensures.reads c.write_damaged-finished.ensures.writes
