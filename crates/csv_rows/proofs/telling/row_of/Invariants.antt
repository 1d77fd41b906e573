use Rattle.std.proofs.Common.{◌≡◌, drop}
use Rattle.std.specs.List.{find}
use Rattle.csv_rows.specs.Checked.{has_key}
use Rattle.csv_rows.proofs.telling.row_of.Given as goal

-- the first row of the key is among those that are left
abbrev pub invariant-loop-item : goal.invariant-loop-item
invariant-loop-item g l = find (has_key (g.K.Keys.place l.key)) (drop l.item-index l.items) ≡ find (has_key (g.K.Keys.place l.key)) l.items
