use Rattle.std.proofs.Common.{◌∙◌, sym, arith}
use Rattle.csv.specs.Records.{fields_of}
use Rattle.csv_rows.specs.declared.table.Form.TheVariants.{Number}
use Rattle.csv_rows.proofs.Ranges.{number_in-range}
use Rattle.duplex_plan.proofs.row_in.number_to.Goals as goal

pub overflow_cast-result : goal.overflow_cast-result
overflow_cast-result c =
    let range = number_in-range (fields_of c.args.row.now) (Number 1 c.args.most 1) c.in_ok-number.number (sym c.number_in.ensures ∙ c.in_ok-number.was {u = tt}) in
    let high = range.1 in
    let fits = c.ranges.most.fits in
    omega (arith, high, fits)
