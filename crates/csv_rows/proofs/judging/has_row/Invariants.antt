use Rattle.std.proofs.Common.{◌≡◌, drop}
use Rattle.csv_rows.specs.Checked.{has}
use Rattle.csv_rows.proofs.judging.has_row.Given as goal

-- a row of the key is among those that are left
abbrev pub invariant-loop-item : goal.invariant-loop-item
invariant-loop-item g l = has (drop l.item-index l.items) (g.K.Keys.place l.key) ≡ has l.items (g.K.Keys.place l.key)
