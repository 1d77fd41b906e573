use Rattle.std.proofs.Common.{subst}
use Rattle.std.proofs.lemmas.Result.{err_from_is_err_and}
use Rattle.run_stops.specs.declared.stop.Stop.TheVariants as stop
use Rattle.run_shell.specs.Writing.{Writes}
use Rattle.run_shell.proofs.Writing.{none_writes}
use Rattle.stream_commands.specs.Making.{names_of, IsMadeOf, StreamInputs}
use Rattle.stream_commands.proofs.write.write_lanes.Goals as goal

pub returns-in_err-maker-clause-writes : goal.returns-in_err-maker-clause-writes
returns-in_err-maker-clause-writes g c =
    let p = err_from_is_err_and c.from_residual.result c.from_residual.ensures.1 in
    rw (p.1, p.2) (none_writes _ _ stop.OutOfMemory _ tt)

pub returns-clause-writes : goal.returns-clause-writes
returns-clause-writes g c =
    subst (λ (i : StreamInputs). Writes (IsMadeOf i) (names_of i) c.make_all.result (g.S.Store.files c.args.store.now) (g.S.Store.files c.make_all.new.store)) c.in_ok-maker.ensures.inputs c.make_all.ensures.writes
