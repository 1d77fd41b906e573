use Rattle.std.proofs.lemmas.Result.{err_from_is_err_and}
use Rattle.receipts.proofs.Putting.{not_put}
use Rattle.receipts.proofs.records.put_made.Goals as goal

pub returns-in_err-now-clause-grown : goal.returns-in_err-now-clause-grown
returns-in_err-now-clause-grown g c given was is =
    let p = err_from_is_err_and c.from_residual.result c.from_residual.ensures.1 in
    rw p.1 (not_put c.args.outputs.now given _ _ was _ is)
