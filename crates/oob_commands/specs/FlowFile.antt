-- A flow file as it is written.
use Rattle.std.specs.Prelude.{ℕ, List, [], ◌∷◌}
use Rattle.std.specs.List.{flat_map}
use Rattle.std.specs.Fmt.{decimal}
use Rattle.lk_base.specs.Hex.{hex}
use Rattle.csv.specs.Writing.{row_text}
use Rattle.csv_rows.specs.Rows.{Row}
use Rattle.csv_rows.specs.Written.{rows_writer}
use Rattle.stream_model.specs.declared.rows.FlowRow.{FlowRow}

-- the fields of a row: its slot, and its word in 16 digits
abbrev pub flow_fields : FlowRow → Row
flow_fields row = decimal row.slot ∷ hex 16 row.word ∷ []

-- the rows as that writer writes them, each ending in a line feed
unfoldable pub flow_file : List FlowRow → List ℕ
flow_file rows = flat_map (λ (row : FlowRow). row_text rows_writer (flow_fields row)) rows
