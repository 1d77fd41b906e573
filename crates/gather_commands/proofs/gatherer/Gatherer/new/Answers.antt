use Rattle.std.proofs.Common.{[]}
use Rattle.std.proofs.lemmas.Result.{err_from_is_err_and}
use Rattle.gather_commands.proofs.Stops.{none_stopped}
use Rattle.gather_commands.proofs.gatherer.Gatherer.new.Goals as goal

pub returns-in_err-front-clause-begins : goal.returns-in_err-front-clause-begins
returns-in_err-front-clause-begins g c =
    let p = err_from_is_err_and c.from_residual.result c.from_residual.ensures.1 in
    rw (p.1, p.2) (none_stopped c.args.out.now [] [] _)

pub returns-in_err-gathered-clause-begins : goal.returns-in_err-gathered-clause-begins
returns-in_err-gathered-clause-begins g c =
    let p = err_from_is_err_and c.from_residual-in_err-gathered.result c.from_residual-in_err-gathered.ensures.1 in
    rw (p.1, p.2) c.in_err-gathered.ensures.gathers

pub returns-clause-begins : goal.returns-clause-begins
returns-clause-begins g c = record { items = []; progress = _; stands = c.in_ok-front.ensures.0; gathered = c.in_ok-gathered.ensures.gathers }
