-- Rows that were judged by a plan's table.
use Rattle.std.proofs.Common.{◌≡◌, ◌∙◌, None, List, [], length, map, ap, sym}
use Rattle.std.proofs.lemmas.List.{length-map}
use Rattle.csv.specs.Records.{fields_of}
use Rattle.csv.specs.declared.record.ByteRecord.{ByteRecord}
use Rattle.csv_rows.specs.Rows.{Row}
use Rattle.csv_rows.specs.Checked.{items_of, first_fault}
use Rattle.csv_rows.specs.Said.{Item}
use Rattle.csv_rows.proofs.Beside.{rows-say, rows-each}
use Rattle.link_plan.specs.Keys.{keys}
use Rattle.link_plan.specs.Plan.{said_by}

pub judged-clean : (all rows : List Row) → rows ≡ all → first_fault keys [] all ≡ None → first_fault keys [] rows ≡ None
judged-clean all rows same clean = ap (first_fault keys []) same ∙ clean

pub judged-said : (all rows : List Row) (items : List Item) → rows ≡ all → items ≡ said_by all → items ≡ said_by rows
judged-said all rows items same said = said ∙ ap (items_of keys) (sym same)

-- as many items as rows
pub judged-each : (rows : List ByteRecord) (items : List Item) → first_fault keys [] (map fields_of rows) ≡ None → items ≡ said_by (map fields_of rows) → length items ≡ length rows
judged-each rows items clean said =
    ap length said ∙ rows-each keys (map fields_of rows) (said_by (map fields_of rows)) (rows-say keys [] (map fields_of rows) clean) ∙ length-map rows fields_of
