use Rattle.std.proofs.lemmas.Result.{err_from_is_err_and}
use Rattle.receipts.proofs.Firsts.{none_made}
use Rattle.receipts.proofs.outputs.create_headed.Goals as goal

pub returns-in_err-head-clause-firsts : goal.returns-in_err-head-clause-firsts
returns-in_err-head-clause-firsts g c =
    let p = err_from_is_err_and c.from_residual.result c.from_residual.ensures.1 in
    rw (p.1, p.2) (none_made _ _ _)

pub returns-in_err-given-clause-firsts : goal.returns-in_err-given-clause-firsts
returns-in_err-given-clause-firsts g c =
    let r = c.from_residual-in_err-given in
    let p = err_from_is_err_and r.result r.ensures.1 in
    rw (p.1, p.2) (none_made _ _ _)
