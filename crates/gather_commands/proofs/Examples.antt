-- The worked examples are as they are said.
use Rattle.std.proofs.Common.{refl}
use Rattle.std.specs.Fmt.{digits}
use Rattle.csv.specs.Writing.{fields_text, is_blank}
use Rattle.csv_rows.specs.Written.{rows_text}
use Rattle.gather_commands.specs.TableLaws.{WorkedTables}

pub worked_tables : WorkedTables
unfolding digits fields_text is_blank rows_text
worked_tables = record { none = refl; two = refl; text = refl }
