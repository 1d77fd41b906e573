-- One row, and nothing before it.
use Rattle.std.proofs.Common.{◌≡◌, ◌++◌, ◌∷◌, ◌∙◌, [], List, ℕ, ap, sym, Vec, Global, Option, Some, unwrap_or, Result, Ok, Err, IfOk}
use Rattle.csv.specs.Writing.{row_text}
use Rattle.csv_rows.specs.Written.{rows_writer}
use Rattle.gather_commands.specs.Table.{place_fields, place_rows}
use Rattle.gather_commands.proofs.Tables.{row_alone}
use Rattle.gather_commands.proofs.table.row_bytes.Goals as goal

one_row : {V E : Type 0} (items : V → List ℕ) (result : Result V E) (all start row rows : List ℕ) → IfOk result (λ v. Some all ≡ Some (items v)) → all ≡ start ++ row → Some start ≡ Some [] → rows ≡ row →
    IfOk result (λ v. items v ≡ rows)
one_row items (Ok v) all start row rows e f g h =
    ap (λ (o : Option (List ℕ)). unwrap_or o []) (sym e) ∙ f ∙ ap (λ (o : Option (List ℕ)). unwrap_or o [] ++ row) g ∙ sym h
one_row items (Err x) all start row rows e f g h = tt

pub returns : goal.returns
returns c =
    let old = c.row_writer-writer.result.wtr in
    let new = c.write_place.new.writer.wtr in
    one_row (λ (v : Vec ℕ Global). v.items) c.written_rows.result (new.inner.items ++ new.buf) (old.inner.items ++ old.buf) (row_text rows_writer (place_fields c.args.row.now)) (place_rows (c.args.row.now ∷ [])) c.written_rows.ensures
    c.in_ok-write_place.ensures.text c.row_writer-writer.ensures.text (row_alone c.args.row.now)
