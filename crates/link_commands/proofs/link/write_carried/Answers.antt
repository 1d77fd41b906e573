use Rattle.std.proofs.lemmas.Result.{err_from_is_err_and}
use Rattle.run_stops.specs.declared.stop.Stop.TheVariants as stop
use Rattle.run_shell.proofs.Writing.{none_writes}
use Rattle.link_commands.proofs.link.write_carried.Goals as goal

pub returns-in_err-names-clause-writes : goal.returns-in_err-names-clause-writes
returns-in_err-names-clause-writes g c inputs is =
    let p = err_from_is_err_and c.from_residual.result c.from_residual.ensures.1 in
    rw (p.1, p.2) (none_writes _ _ stop.OutOfMemory _ tt)
