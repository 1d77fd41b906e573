use Rattle.std.proofs.lemmas.Result.{err_from_is_err_and}
use Rattle.csv_rows.specs.Rows.{rows_of}
use Rattle.link_plan.proofs.RowsRefused.{plan-refused, plan-error}
use Rattle.link_plan.proofs.read.read_plan.Goals as goal

pub returns-in_err-checked-clause-gives : goal.returns-in_err-checked-clause-gives
returns-in_err-checked-clause-gives c =
    let p = err_from_is_err_and c.from_residual.result c.from_residual.ensures.1 in
    rw (p.1, p.2) (plan-refused (rows_of c.args.bytes.now) c.in_err-checked.field-0.0 c.in_err-checked.ensures.err)

pub returns-in_err-checked-clause-refusals : goal.returns-in_err-checked-clause-refusals
returns-in_err-checked-clause-refusals c =
    let p = err_from_is_err_and c.from_residual.result c.from_residual.ensures.1 in
    rw (p.1, p.2) (plan-error c.in_err-checked.field-0.0)
