use Rattle.std.proofs.lemmas.Result.{err_from_is_err_and}
use Rattle.run_shell.proofs.Writing.{writes_comes, writes_leaves}
use Rattle.run_shell.proofs.Works.{reading_ends}
use Rattle.duplex_commands.specs.Reading.{IsReadFor}
use Rattle.duplex_commands.specs.Values.{duplex_reading}
use Rattle.duplex_commands.specs.Run.{duplex_names, duplex_work}
use Rattle.duplex_commands.specs.declared.reading.DuplexInputs.{DuplexInputs}
use Rattle.duplex_commands.proofs.Works.{duplex_means}
use Rattle.duplex_commands.proofs.command.DuplexFileFileCommand.obey.Goals as goal

pub returns-in_err-inputs-clause-lawful : goal.returns-in_err-inputs-clause-lawful
returns-in_err-inputs-clause-lawful g c = duplex_means c.args.file.now

pub returns-clause-lawful : goal.returns-clause-lawful
returns-clause-lawful g c = duplex_means c.args.file.now

pub returns-in_err-inputs-clause-comes : goal.returns-in_err-inputs-clause-comes
returns-in_err-inputs-clause-comes g c =
    let p = err_from_is_err_and c.from_residual.result c.from_residual.ensures.1 in
    rw (p.1, p.2) (reading_ends DuplexInputs (duplex_work c.args.file.now) duplex_reading (IsReadFor c.args.file.now) c.in_err-inputs.field-0.0 _ _ c.in_err-inputs.ensures.unchanged (λ u q h. h) c.in_err-inputs.ensures.reads)

pub returns-clause-comes : goal.returns-clause-comes
returns-clause-comes g c =
    let name = c.args.file.now in
    let i = c.in_ok-inputs.inputs in
    writes_comes (duplex_work name) (duplex_reading i) (duplex_names (duplex_reading i)) (λ q h. h) c.write_duplex-finished.result _ _ _ c.in_ok-inputs.ensures.unchanged c.in_ok-inputs.ensures.reads c.write_duplex-finished.ensures.writes

pub returns-clause-others : goal.returns-clause-others
returns-clause-others g c =
    let name = c.args.file.now in
    let i = c.in_ok-inputs.inputs in
    writes_leaves (duplex_work name) (duplex_reading i) (duplex_names (duplex_reading i)) (λ q h. h) c.write_duplex-finished.result _ _ _ c.in_ok-inputs.ensures.unchanged c.in_ok-inputs.ensures.reads c.write_duplex-finished.ensures.writes

pub returns-in_err-inputs-clause-cause : goal.returns-in_err-inputs-clause-cause
returns-in_err-inputs-clause-cause g c =
    let p = err_from_is_err_and c.from_residual.result c.from_residual.ensures.1 in
    rw (p.1, p.2) c.in_err-inputs.ensures.cause
