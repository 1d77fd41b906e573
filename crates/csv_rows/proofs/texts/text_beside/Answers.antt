use Rattle.std.proofs.Common.{◌≡◌, ◌∙◌, Some, map, length, ap, sym, arith}
use Rattle.std.proofs.lemmas.List.{length-map}
use Rattle.csv.specs.Records.{fields_of}
use Rattle.csv_rows.specs.Rows.{Row}
use Rattle.csv_rows.specs.Fields.{field}
use Rattle.csv_rows.specs.Checked.{has_key}
use Rattle.csv_rows.proofs.Beside.{beside-more, beside-here, beside-none, fields-at, text-row}
use Rattle.csv_rows.proofs.texts.text_beside.Goals as goal

pub text_at-requires : goal.text_at-requires
text_at-requires g c =
    let each = c.requires.each in
    let few = c.loop-i-test.true in
    text-row c.args.rows.now c.loop-i.i c.index-rows-i.result c.requires.text (omega (arith, each, few)) c.index-rows-i.is

pub returns-then-is_of : goal.returns-then-is_of
returns-then-is_of g c =
    let each = c.requires.each in
    let few = c.loop-i-test.true in
    let rows = map fields_of c.args.rows.now in
    let size : length rows ≡ length c.args.rows.now = length-map c.args.rows.now fields_of in
    let row = fields-at c.args.rows.now c.loop-i.i c.index-rows-i.result (omega (arith, each, few)) c.index-rows-i.is in
    ap Some (c.in_ok-text.ensures.ok ∙ c.text_at.ensures ∙ ap (λ (r : Row). field r 1) (sym row))
    ∙ sym (beside-here (g.K.Keys.place c.args.key) c.loop-i.i c.args.items.now rows c.index-items-i.result few (omega (arith, each, few, size)) (ap (has_key (g.K.Keys.place c.args.key)) (sym c.index-items-i.is) ∙ sym c.if-is_of.ensures)) ∙ c.loop-i.invariant

pub loop-i-preserved : goal.loop-i-preserved
loop-i-preserved g c =
    let each = c.requires.each in
    let few = c.loop-i-test.true in
    let rows = map fields_of c.args.rows.now in
    let size : length rows ≡ length c.args.rows.now = length-map c.args.rows.now fields_of in
    sym (beside-more (g.K.Keys.place c.args.key) c.loop-i.i c.args.items.now rows c.index-items-i.result few (omega (arith, each, few, size)) (ap (has_key (g.K.Keys.place c.args.key)) (sym c.index-items-i.is) ∙ sym c.if-is_of.ensures)) ∙ c.loop-i.invariant

pub returns : goal.returns
returns g c =
    let over = c.loop-i-test.false in
    sym (beside-none (g.K.Keys.place c.args.key) c.loop-i.i c.args.items.now _ (omega (arith, over))) ∙ c.loop-i.invariant
