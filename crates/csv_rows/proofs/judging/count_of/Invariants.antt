use Rattle.std.proofs.Common.{◌≡◌, ◌+◌, ◌≤◌, drop}
use Rattle.std.specs.Prelude.{count_by}
use Rattle.csv_rows.specs.Checked.{has_key}
use Rattle.csv_rows.proofs.judging.count_of.Given as goal

-- the rows of the key are those that were counted and those that are left
abbrev pub invariant-loop-item : goal.invariant-loop-item
invariant-loop-item g l = record {
  all : l.count + count_by (has_key (g.K.Keys.place l.key)) (drop l.item-index l.items) ≡ count_by (has_key (g.K.Keys.place l.key)) l.items;
  few : l.count ≤ l.item-index;
}
