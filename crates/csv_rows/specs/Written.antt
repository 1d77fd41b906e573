-- Rows as they are written.
use Rattle.std.specs.Prelude.{ℕ, List, true}
use Rattle.std.specs.List.{flat_map}
use Rattle.csv.specs.Writing.{default_writer, with_flexible, row_text}
use Rattle.csv.specs.declared.writer.WriterBuilder.{WriterBuilder}
use Rattle.csv_rows.specs.Rows.{Row}

-- the writer of rows: `csv` with its defaults, but for rows of any length
abbrev pub rows_writer : WriterBuilder
rows_writer = with_flexible default_writer true

-- rows as that writer writes them, each ending in a line feed
unfoldable pub rows_text : List Row → List ℕ
rows_text rows = flat_map (row_text rows_writer) rows
