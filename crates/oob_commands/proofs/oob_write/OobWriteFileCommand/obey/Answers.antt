use Rattle.std.proofs.Common.{[], ◌∷◌, string_bytes}
use Rattle.std.proofs.lemmas.Result.{err_from_is_err_and}
use Rattle.run_shell.proofs.OutputNames.{one_name}
use Rattle.run_shell.proofs.Writing.{writes_comes, writes_leaves}
use Rattle.run_shell.proofs.Works.{reading_ends}
use Rattle.oob_commands.specs.WriteSamples.{IsLocalRead, samples_name, oob_write_work}
use Rattle.oob_commands.specs.Values.{local_value}
use Rattle.oob_commands.specs.declared.reading.PlanLocal.{PlanLocal}
use Rattle.oob_commands.proofs.Works.{write_means}
use Rattle.oob_commands.proofs.oob_write.OobWriteFileCommand.obey.Goals as goal

pub returns-in_err-reading-clause-lawful : goal.returns-in_err-reading-clause-lawful
returns-in_err-reading-clause-lawful g c = write_means c.args.file.now

pub returns-clause-lawful : goal.returns-clause-lawful
returns-clause-lawful g c = write_means c.args.file.now

pub returns-in_err-reading-clause-comes : goal.returns-in_err-reading-clause-comes
returns-in_err-reading-clause-comes g c =
    let p = err_from_is_err_and c.from_residual.result c.from_residual.ensures.1 in
    rw (p.1, p.2) (reading_ends PlanLocal (oob_write_work c.args.file.now) local_value (λ files. IsLocalRead files c.args.file.now) c.in_err-reading.field-0.0 _ _ c.in_err-reading.ensures.unchanged (λ u q h. h) c.in_err-reading.ensures.reads)

pub returns-clause-comes : goal.returns-clause-comes
returns-clause-comes g c =
    let name = c.args.file.now in
    let created = samples_name (string_bytes c.in_ok-reading.reading.plan.out) in
    writes_comes (oob_write_work name) (local_value c.in_ok-reading.reading) (created ∷ []) (λ q h. one_name created q h) c.write_samples-finished.result _ _ _ c.in_ok-reading.ensures.unchanged c.in_ok-reading.ensures.reads c.write_samples-finished.ensures.writes

pub returns-clause-others : goal.returns-clause-others
returns-clause-others g c =
    let name = c.args.file.now in
    let created = samples_name (string_bytes c.in_ok-reading.reading.plan.out) in
    writes_leaves (oob_write_work name) (local_value c.in_ok-reading.reading) (created ∷ []) (λ q h. one_name created q h) c.write_samples-finished.result _ _ _ c.in_ok-reading.ensures.unchanged c.in_ok-reading.ensures.reads c.write_samples-finished.ensures.writes

pub returns-in_err-reading-clause-cause : goal.returns-in_err-reading-clause-cause
returns-in_err-reading-clause-cause g c =
    let p = err_from_is_err_and c.from_residual.result c.from_residual.ensures.1 in
    rw (p.1, p.2) c.in_err-reading.ensures.cause
