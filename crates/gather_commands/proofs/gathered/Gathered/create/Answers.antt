use Rattle.std.proofs.Common.{refl}
use Rattle.std.proofs.lemmas.Result.{err_from_is_err_and}
use Rattle.gather_commands.proofs.gathered.Gathered.create.Goals as goal

pub returns-in_err-files-clause-gathers : goal.returns-in_err-files-clause-gathers
returns-in_err-files-clause-gathers g c =
    let p = err_from_is_err_and c.from_residual.result c.from_residual.ensures.1 in
    rw (p.1, p.2) c.in_err-files.ensures.puts

pub returns-clause-gathers : goal.returns-clause-gathers
returns-clause-gathers g c = record { files = c.in_ok-files.ensures.puts; epochs = refl; broken = refl }
