use Rattle.std.proofs.Common.{◌≡◌, ◌++◌, ◌∷◌, [], List, ℕ, OnOk, subst, ap, refl}
use Rattle.std.specs.Fmt.{decimal}
use Rattle.csv.specs.Writing.{row_text}
use Rattle.csv_rows.specs.Written.{rows_writer}
use Rattle.lk_base.specs.Hex.{hex}
use Rattle.oob_commands.proofs.flow_text.write_word.Goals as goal

pub returns-clause-text : goal.returns-clause-text
returns-clause-text c =
    let new = c.write_row.new.writer.wtr in
    let old = c.args.writer.now.wtr in
    let same : c.as_bytes.result.now ∷ c.as_slice.result.now ∷ [] ≡ decimal c.args.slot ∷ hex 16 c.args.word ∷ [] = rw (c.as_bytes.ensures.value, c.as_slice.ensures.value, c.in_ok-slot.ensures, c.in_ok-word.ensures) refl in
    subst (λ (text : List ℕ). OnOk c.write_row.result (new.inner.items ++ new.buf ≡ old.inner.items ++ old.buf ++ text)) (ap (row_text rows_writer) same) c.write_row.ensures.text
