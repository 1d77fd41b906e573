use Rattle.std.proofs.Common.{◌≡◌, ◌++◌, ◌∷◌, [], List, ℕ, OnOk, subst, ap, refl}
use Rattle.csv.specs.Writing.{row_text}
use Rattle.csv_rows.specs.Written.{rows_writer}
use Rattle.gather_commands.specs.Table.{place_fields}
use Rattle.gather_commands.proofs.table.write_place.Goals as goal

pub returns-clause-text : goal.returns-clause-text
returns-clause-text c =
    let new = c.write_row.new.writer.wtr in
    let old = c.args.writer.now.wtr in
    let same : c.as_bytes.result.now ∷ c.as_bytes-2.result.now ∷ c.as_bytes-3.result.now ∷ c.why_text.result.now ∷ [] ≡ place_fields c.args.row.now = rw (c.as_bytes.ensures.value, c.as_bytes-2.ensures.value, c.as_bytes-3.ensures.value, c.in_ok-word.ensures, c.in_ok-group.ensures, c.in_ok-index.ensures, c.from.ensures, c.why_text.ensures) refl in
    subst (λ (text : List ℕ). OnOk c.write_row.result (new.inner.items ++ new.buf ≡ old.inner.items ++ old.buf ++ text)) (ap (row_text rows_writer) same) c.write_row.ensures.text
