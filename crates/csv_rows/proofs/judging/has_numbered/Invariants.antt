use Rattle.std.proofs.Common.{◌≡◌, drop}
use Rattle.std.specs.List.{list_any}
use Rattle.csv_rows.specs.Checked.{has_number}
use Rattle.csv_rows.proofs.judging.has_numbered.Given as goal

-- a row of the key with the number is among those that are left
abbrev pub invariant-loop-item : goal.invariant-loop-item
invariant-loop-item g l = list_any (has_number (g.K.Keys.place l.key) l.number) (drop l.item-index l.items) ≡ list_any (has_number (g.K.Keys.place l.key) l.number) l.items
