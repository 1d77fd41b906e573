-- How long a flow file is.
use Rattle.std.proofs.Common.{◌≡◌, ◌++◌, ◌∷◌, ◌+◌, ◌*◌, ◌/◌, ◌%◌, ◌^◌, ◌<◌, ◌≤◌, [], ℕ, zero, suc, List, Bool, true, false, refl, ap, length, All, nat_lt, if◌then◌else◌, arith}
use Rattle.std.specs.List.{flat_map}
use Rattle.std.specs.Fmt.{decimal, digit_glyph}
use Rattle.std.proofs.lemmas.Bool.{ne_eqb}
use Rattle.std.proofs.lemmas.Fmt.{decimal_by_steps, length-decimal-le}
use Rattle.std.proofs.lemmas.List.{length-append}
use Rattle.std.proofs.lemmas.List.Elements.{All-nil, All-cons, All-append, All-head, All-tail}
use Rattle.csv.specs.Writing.{escaped, needs_quotes, field_text, fields_text, is_blank, quoted, row_text}
use Rattle.csv_rows.specs.Written.{rows_writer}
use Rattle.lk_base.specs.Limits.{rows_limit}
use Rattle.stream_model.specs.declared.rows.FlowRow.{FlowRow}
use Rattle.oob_flow.specs.Reading.{rows_of_samples}
use Rattle.oob_flow.proofs.Going.{few_rows, slots_below}
use Rattle.oob_commands.specs.FlowFile.{flow_fields, flow_file}
use Rattle.lk_base.specs.Hex.{hex}
use Rattle.lk_base.proofs.HexDigits.{length-hex}

-- ---- fields of digits have no quotation mark

abbrev IsPlain : ℕ → Type 0
IsPlain byte = 34 < byte

plain_push : (ds : List ℕ) (d : ℕ) → All IsPlain ds → 34 < d → All IsPlain (ds ++ d ∷ [])
plain_push ds d h k = All-append IsPlain ds (d ∷ []) h (All-cons IsPlain d [] k (All-nil IsPlain))

decimal_plain : (n : ℕ) → n < 2 ^ 64 → All IsPlain (decimal n)
decimal_plain n h = decimal_by_steps (λ n ds. All IsPlain ds) (λ n l. plain_push [] (48 + n) (All-nil IsPlain) (omega arith)) (λ n ds l p. plain_push ds (48 + n % 10) p (omega arith)) n h

glyph_plain : (d : ℕ) → 34 < digit_glyph true d
glyph_plain d = by (nat_lt d 10) refl
  where
    by : (b : Bool) → nat_lt d 10 ≡ b → 34 < digit_glyph true d
    by true e = rw e (omega arith)
    by false e = rw e (omega arith)

hex_plain : (n x : ℕ) → All IsPlain (hex n x)
unfolding hex
hex_plain zero x = All-nil IsPlain
hex_plain (suc n) x = plain_push (hex n (x / 16)) (digit_glyph true (x % 16)) (hex_plain n (x / 16)) (glyph_plain (x % 16))

escaped_plain : (field : List ℕ) → All IsPlain field → escaped rows_writer field ≡ field
unfolding escaped
escaped_plain [] h = refl
escaped_plain (b ∷ rest) h =
    let high : 34 < b = All-head IsPlain b rest h in
    let others = escaped_plain rest (All-tail IsPlain b rest h) in
    rw (ne_eqb b 34 (omega arith), others) refl

field_by : (quotes : Bool) (field text : List ℕ) → length text ≤ length field + 2 → length (if quotes then text else field) ≤ length field + 2
field_by true field text h = h
field_by false field text h = omega arith

field_long : (field : List ℕ) → All IsPlain field → length (field_text rows_writer field) ≤ length field + 2
field_long field h =
    let same = ap length (escaped_plain field h) in
    let two = length-append (escaped rows_writer field) (34 ∷ []) in
    field_by (needs_quotes rows_writer field) field (quoted rows_writer field) (omega arith)

-- ---- rows

-- at most seven digits, a comma, sixteen digits and a line feed, and quotation marks at most
row_long : (row : FlowRow) → row.slot < 4194304 → length (row_text rows_writer (flow_fields row)) ≤ 29
unfolding fields_text is_blank
row_long row h =
    let digits = length-decimal-le 7 row.slot (omega arith) (omega arith) (omega arith) in
    let slot = field_long (decimal row.slot) (decimal_plain row.slot (omega arith)) in
    let sixteen = length-hex 16 row.word in
    let word = field_long (hex 16 row.word) (hex_plain 16 row.word) in
    simp length-append (omega arith)

rows_long : (rows : List FlowRow) → All (λ (row : FlowRow). row.slot < 4194304) rows → length (flow_file rows) ≤ 29 * length rows
unfolding flow_file
rows_long [] h = omega arith
rows_long (row ∷ rows) h =
    let here = row_long row (All-head (λ (r : FlowRow). r.slot < 4194304) row rows h) in
    let rest = rows_long rows (All-tail (λ (r : FlowRow). r.slot < 4194304) row rows h) in
    let two = length-append (row_text rows_writer (flow_fields row)) (flat_map (λ (r : FlowRow). row_text rows_writer (flow_fields r)) rows) in
    omega arith

-- the flow file of samples that are read is itself within the limit of files of rows
pub short : (entries : ℕ) (samples : List ℕ) → 1 ≤ entries → length samples ≤ 4194304 → length (flow_file (rows_of_samples entries samples)) ≤ rows_limit
short entries samples low few =
    let slots : All (λ (row : FlowRow). row.slot < 4194304) (rows_of_samples entries samples) = (λ k d l. (let b = slots_below entries samples low k d l in omega (arith, b))) in
    let rows = few_rows entries samples low in
    let bytes = rows_long (rows_of_samples entries samples) slots in
    omega arith
