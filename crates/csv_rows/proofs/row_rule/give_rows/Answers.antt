use Rattle.std.proofs.Common.{◌∙◌, ◌+◌, length, ap, arith}
use Rattle.csv.specs.Records.{fields_of}
use Rattle.csv_rows.specs.Behind.{said_in}
use Rattle.csv_rows.specs.Reading.{rows_left}
use Rattle.csv_rows.proofs.Behind.{said-all, said-next, said-refused, row-refused}
use Rattle.csv_rows.proofs.row_rule.give_rows.Goals as goal

pub returns-then-not-branch-clause-taken : goal.returns-then-not-branch-clause-taken
returns-then-not-branch-clause-taken g c =
    let none = rw c.if-not-branch.true at c.in_ok-next_row.ensures.gives in
    said-all (g.R.RowRule.reads (g.R.RowRule.given c.args.rule.now)) (g.R.RowRule.HasTaken c.loop-number.rule) c.loop-number.number (rows_left c.loop-number.rdr) (rows_left c.args.rdr.now) c.loop-number.invariant.so_far none

pub loop-number-preserved : goal.loop-number-preserved
loop-number-preserved g c =
    let inv = c.loop-number.invariant in
    let gives = rw c.if-not-branch.false at c.in_ok-next_row.ensures.gives in
    let took = c.in-Ok.ensures {u = tt} in
    let size = ap length gives.1 in
    let counted = inv.counted in
    record {
      reading = gives.0;
      same = took.given ∙ inv.same;
      so_far = said-next (g.R.RowRule.reads (g.R.RowRule.given c.args.rule.now)) (g.R.RowRule.reads (g.R.RowRule.given c.loop-number.rule)) (g.R.RowRule.HasTaken c.loop-number.rule) (g.R.RowRule.HasTaken c.take.new.self) c.loop-number.number
          (fields_of c.next_row.new.row) (rows_left c.loop-number.rdr) (rows_left c.next_row.new.rdr) (rows_left c.args.rdr.now) (ap g.R.RowRule.reads inv.same) inv.so_far gives.1 took.taken;
      counted = omega (arith, size, counted);
    }

pub returns-in-Err-Fault-clause-refused : goal.returns-in-Err-Fault-clause-refused
returns-in-Err-Fault-clause-refused g c =
    let inv = c.loop-number.invariant in
    let gives = rw c.if-not-branch.false at c.in_ok-next_row.ensures.gives in
    let took = c.in-Err-Fault.ensures {u = tt} in
    row-refused (said_in (g.R.RowRule.reads (g.R.RowRule.given c.args.rule.now)) (rows_left c.args.rdr.now)) (c.loop-number.number + 1) c.in-Err-Fault.fault (said-refused (g.R.RowRule.reads (g.R.RowRule.given c.args.rule.now)) (g.R.RowRule.reads (g.R.RowRule.given c.loop-number.rule)) (g.R.RowRule.HasTaken c.loop-number.rule) c.loop-number.number
    (fields_of c.next_row.new.row) (rows_left c.loop-number.rdr) (rows_left c.next_row.new.rdr) (rows_left c.args.rdr.now) c.in-Err-Fault.fault (ap g.R.RowRule.reads inv.same) inv.so_far gives.1 (λ before held. took.fault c.in-Err-Fault.fault before c.in-Err-Fault.field-0-is held))
