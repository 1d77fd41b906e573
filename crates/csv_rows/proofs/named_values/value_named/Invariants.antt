use Rattle.std.proofs.Common.{◌≡◌, drop}
use Rattle.csv_rows.specs.Named.{named_in}
use Rattle.csv_rows.proofs.named_values.value_named.Given as goal

-- the lines that are left have the value
abbrev pub invariant-loop-line : goal.invariant-loop-line
invariant-loop-line g l = named_in (drop l.line-index l.table) l.name ≡ named_in l.table l.name
