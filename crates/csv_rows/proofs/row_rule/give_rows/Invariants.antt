use Rattle.std.proofs.Common.{◌≡◌, ◌+◌, ◌≤◌, length}
use Rattle.csv_rows.specs.Reading.{IsReading, rows_left}
use Rattle.csv_rows.proofs.Behind.{HasSaid}
use Rattle.csv_rows.proofs.row_rule.give_rows.Given as goal

abbrev pub invariant-loop-number : goal.invariant-loop-number
invariant-loop-number g l = record {
  reading : IsReading l.rdr;
  same : g.R.RowRule.given l.rule ≡ g.R.RowRule.given l.fn.rule;
  so_far : HasSaid (g.R.RowRule.reads (g.R.RowRule.given l.fn.rule)) (g.R.RowRule.HasTaken l.rule) l.number (rows_left l.rdr) (rows_left l.fn.rdr);
  counted : l.number + length (rows_left l.rdr) ≤ length (rows_left l.fn.rdr);
}

-- the rows that are left
abbrev pub decreases-loop-number : goal.decreases-loop-number
decreases-loop-number g l = length (rows_left l.rdr)
