use Rattle.std.proofs.Common.{[], ◌∷◌, string_bytes}
use Rattle.std.proofs.lemmas.Result.{err_from_is_err_and}
use Rattle.run_shell.proofs.OutputNames.{one_name}
use Rattle.run_shell.proofs.Writing.{writes_comes, writes_leaves}
use Rattle.run_shell.proofs.Works.{reading_ends}
use Rattle.check_commands.specs.Check.{IsReadFor, check_work, faults_name}
use Rattle.check_commands.specs.Values.{inputs_value}
use Rattle.check_commands.proofs.Checks.{check_means}
use Rattle.check_commands.proofs.check.CheckFileCommand.obey.Goals as goal

pub returns-in_err-inputs-clause-lawful : goal.returns-in_err-inputs-clause-lawful
returns-in_err-inputs-clause-lawful g c = check_means c.args.file.now

pub returns-clause-lawful : goal.returns-clause-lawful
returns-clause-lawful g c = check_means c.args.file.now

pub returns-in_err-inputs-clause-comes : goal.returns-in_err-inputs-clause-comes
returns-in_err-inputs-clause-comes g c =
    let p = err_from_is_err_and c.from_residual.result c.from_residual.ensures.1 in
    rw (p.1, p.2) (reading_ends _ (check_work c.args.file.now) inputs_value (IsReadFor c.args.file.now) c.in_err-inputs.field-0.0 _ _ c.in_err-inputs.ensures.unchanged (λ u q h. h) c.in_err-inputs.ensures.reads)

pub returns-clause-comes : goal.returns-clause-comes
returns-clause-comes g c =
    let created = faults_name (string_bytes c.in_ok-inputs.inputs.plan.out) in
    writes_comes (check_work c.args.file.now) (inputs_value c.in_ok-inputs.inputs) (created ∷ []) (λ q h. one_name created q h) c.write_checked-finished.result _ _ _ c.in_ok-inputs.ensures.unchanged c.in_ok-inputs.ensures.reads c.write_checked-finished.ensures.writes

pub returns-clause-others : goal.returns-clause-others
returns-clause-others g c =
    let created = faults_name (string_bytes c.in_ok-inputs.inputs.plan.out) in
    writes_leaves (check_work c.args.file.now) (inputs_value c.in_ok-inputs.inputs) (created ∷ []) (λ q h. one_name created q h) c.write_checked-finished.result _ _ _ c.in_ok-inputs.ensures.unchanged c.in_ok-inputs.ensures.reads c.write_checked-finished.ensures.writes
