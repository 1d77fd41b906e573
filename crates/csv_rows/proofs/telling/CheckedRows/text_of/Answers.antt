use Rattle.std.proofs.Common.{◌≡◌, ◌∙◌, Option, List, ℕ, IfOk, [], map, length, ap, subst}
use Rattle.std.specs.Prelude.{string_bytes}
use Rattle.std.specs.Option.{option_map}
use Rattle.std.proofs.lemmas.List.{length-map}
use Rattle.csv.specs.Records.{fields_of}
use Rattle.csv.specs.declared.record.ByteRecord.{ByteRecord}
use Rattle.csv_rows.specs.Rows.{Row}
use Rattle.csv_rows.specs.Checked.{items_of, text_of, text_beside}
use Rattle.csv_rows.specs.Said.{Item}
use Rattle.csv_rows.proofs.Beside.{rows-say, rows-text, rows-each, text-beside}
use Rattle.csv_rows.proofs.telling.CheckedRows.text_of.Goals as goal

pub text_beside-requires-clause-text : goal.text_beside-requires-clause-text
text_beside-requires-clause-text g c =
    let keys = g.K.Keys.rules in
    let rows = map fields_of c.self.inside.rows.items in
    λ _ _. rw c.as_slice.ensures.value (rows-text keys rows (items_of keys rows) (rows-say keys [] rows c.self.invariant.0))

pub text_beside-requires-clause-each : goal.text_beside-requires-clause-each
text_beside-requires-clause-each g c =
    let keys = g.K.Keys.rules in
    let rows = map fields_of c.self.inside.rows.items in
    let (clean, said, few) = c.self.invariant in
    let each = rows-each keys rows (items_of keys rows) (rows-say keys [] rows clean) in
    λ _ _. rw (c.as_slice.ensures.value, c.as_slice-2.ensures.value) (ap length said ∙ each ∙ length-map c.self.inside.rows.items fields_of)

pub returns : goal.returns
returns g c =
    let keys = g.K.Keys.rules in
    let rows = map fields_of c.self.inside.rows.items in
    let key = g.K.Keys.place c.args.key in
    let (clean, said, few) = c.self.invariant in
    let same = ap (λ (items : List Item). text_beside key items (map fields_of c.as_slice.result.now)) (c.as_slice-2.ensures.value ∙ said)
    ∙ ap (λ (rs : List ByteRecord). text_beside key (items_of keys rows) (map fields_of rs)) c.as_slice.ensures.value
    ∙ text-beside keys rows (items_of keys rows) key (rows-say keys [] rows clean)
    ∙ ap (λ (rs : List Row). text_of keys rs key) c.self.view_is in
    subst (λ (t : Option (List ℕ)). IfOk c.text_beside.result (λ o. option_map string_bytes o ≡ t)) same c.text_beside.ensures
