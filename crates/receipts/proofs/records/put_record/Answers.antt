use Rattle.std.proofs.Common.{◌∙◌, ◌+◌, subst}
use Rattle.std.proofs.lemmas.Result.{err_from_is_err_and}
use Rattle.run_shell.specs.Outputs.{Grown, more}
use Rattle.receipts.proofs.Putting.{not_put}
use Rattle.receipts.proofs.records.put_record.Goals as goal

pub returns-in_err-record-clause-grown : goal.returns-in_err-record-clause-grown
returns-in_err-record-clause-grown g c given was is =
    let p = err_from_is_err_and c.from_residual.result c.from_residual.ensures.1 in
    rw p.1 (not_put c.args.outputs.now given _ _ was _ is)

pub returns-clause-grown : goal.returns-clause-grown
returns-clause-grown g c given was is =
    subst (λ made. Grown c.args.outputs.now c.put_made.new.outputs (more given (c.args.at.ahead + c.args.at.place) made) c.put_made.result was (g.S.Store.files c.put_made.new.store)) (c.deref.ensures.value ∙ c.in_ok-record.ensures)
    (c.put_made.ensures.grown given was is)
