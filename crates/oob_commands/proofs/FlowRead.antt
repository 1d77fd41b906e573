-- A flow file that was written is accepted as its rows.
use Rattle.std.proofs.Common.{◌≡◌, ◌++◌, ◌∷◌, ◌-◌, ◌/◌, ◌%◌, ◌^◌, ◌<◌, ◌≤◌, [], ℕ, zero, suc, List, Bool, true, false, Ok, Some, refl, sym, ap, ◌∙◌, subst, length, map, All, nat_lt, if◌then◌else◌, arith, append_assoc, append-nil}
use Rattle.std.specs.List.{slice_get}
use Rattle.std.specs.List.Sorted.{IsNonDecreasingBy}
use Rattle.std.specs.Str.{IsAscii, is_utf8}
use Rattle.std.specs.Fmt.{decimal, digit_glyph}
use Rattle.std.proofs.lemmas.Bool.{le-leb, ne_eqb}
use Rattle.std.proofs.lemmas.Bool.Decides.{nat_tests}
use Rattle.std.proofs.lemmas.List.{length_push}
use Rattle.std.proofs.lemmas.List.Elements.{All-head, All-tail}
use Rattle.std.proofs.lemmas.List.Folds.{flat_map-map}
use Rattle.std.proofs.lemmas.Str.{is_utf8-from_IsUtf8, IsUtf8-from_ascii, IsAscii-append}
use Rattle.csv.specs.Reading.{strip_bom}
use Rattle.csv.specs.Writing.{row_text, field_text, fields_text, is_blank, by_style, needs_quotes, quoted, escaped}
use Rattle.csv_rows.specs.Rows.{rows_of}
use Rattle.csv_rows.specs.Behind.{said_behind, said_in}
use Rattle.stream_model.specs.declared.rows.FlowRow.{FlowRow}
use Rattle.link_plan.specs.Timed.{flow_row, flow_behind, flow_of, is_back}
use Rattle.link_plan.specs.Refusals.{refused_by}
use Rattle.oob_flow.specs.Reading.{rows_of_samples}
use Rattle.oob_flow.proofs.Going.{in_order_of_slots, slots_below, words_below}
use Rattle.csv_rows.specs.Written.{rows_writer}
use Rattle.oob_commands.specs.FlowFile.{flow_fields, flow_file}
use Rattle.lk_base.specs.Hex.{hex}
use Rattle.csv_rows.proofs.Decimals.{IsShort, decimal-read, decimal-text, decimal-some, decimal-ascii}
use Rattle.oob_commands.proofs.Hexes.{word_back}
use Rattle.csv_rows.specs.Written.{rows_text}
use Rattle.csv_rows.proofs.ReadBack.{text-read, AreFilled}

-- ---- one row

glyph_small : (d : ℕ) → d < 16 → digit_glyph true d < 128
glyph_small d h = by (nat_lt d 10) refl
  where
    by : (b : Bool) → nat_lt d 10 ≡ b → digit_glyph true d < 128
    by true e = rw e (omega arith)
    by false e = rw e (omega arith)

one_ascii : (g : ℕ) → g < 128 → IsAscii (g ∷ [])
one_ascii g h zero = h
one_ascii g h (suc i) = omega arith

hex_ascii : (n x : ℕ) → IsAscii (hex n x)
unfolding hex
hex_ascii zero x = λ i. omega arith
hex_ascii (suc n) x = IsAscii-append (hex n (x / 16)) (digit_glyph true (x % 16) ∷ []) (hex_ascii n (x / 16)) (one_ascii (digit_glyph true (x % 16)) (glyph_small (x % 16) (omega arith)))

row_said : (row : FlowRow) → row.slot ≤ 16777215 → row.word < 2 ^ 64 → flow_row (flow_fields row) ≡ Ok row
unfolding flow_row
row_said row h k =
    let short : IsShort row.slot = omega arith in
    let slot_text : is_utf8 (decimal row.slot) ≡ true = is_utf8-from_IsUtf8 (decimal row.slot) (decimal-text row.slot short) in
    let word_text : is_utf8 (hex 16 row.word) ≡ true = is_utf8-from_IsUtf8 (hex 16 row.word) (IsUtf8-from_ascii (hex 16 row.word) (hex_ascii 16 row.word)) in
    rw (slot_text, word_text, decimal-read row.slot short, word_back row.word k, le-leb row.slot 16777215 h) refl

-- ---- rows in order

-- each slot is at least that before it
abbrev Rising : ℕ → List FlowRow → Type 0
Rising n [] = Unit {0}
Rising n (row ∷ rows) = (n ≤ row.slot) × (row.slot ≤ 16777215) × (row.word < 2 ^ 64) × Rising row.slot rows

last_get : {X : Type 0} (xs : List X) (x : X) → slice_get (xs ++ x ∷ []) (length (xs ++ x ∷ []) - 1) ≡ Some x
last_get xs x = let e : length (xs ++ x ∷ []) - 1 ≡ length xs = (let l = length_push xs x in omega arith) in ap (slice_get (xs ++ x ∷ [])) e ∙ at xs x
  where
    at : {X : Type 0} (xs : List X) (x : X) → slice_get (xs ++ x ∷ []) (length xs) ≡ Some x
    at [] x = refl
    at (y ∷ xs) x = at xs x

not_back : (init : List FlowRow) (last row : FlowRow) → last.slot ≤ row.slot → is_back (λ (r : FlowRow). r.slot) (init ++ last ∷ []) row.slot ≡ false
not_back init last row h = let test : nat_lt row.slot last.slot ≡ false = grind (arith, nat_tests) in rw (last_get init last) test

said_from : (init : List FlowRow) (last : FlowRow) (rows : List FlowRow) → Rising last.slot rows → said_behind flow_behind (init ++ last ∷ []) (map flow_fields rows) ≡ Ok ((init ++ last ∷ []) ++ rows)
unfolding said_behind flow_behind
said_from init last [] h = ap Ok (sym (append-nil (init ++ last ∷ [])))
said_from init last (row ∷ rows) h =
    rw (row_said row h.1 h.2, not_back init last row h.0) (said_from (init ++ last ∷ []) row rows h.3 ∙ ap Ok (append_assoc (init ++ last ∷ []) (row ∷ []) rows))

said_all : (rows : List FlowRow) → Rising 0 rows → said_in flow_behind (map flow_fields rows) ≡ Ok rows
unfolding said_behind flow_behind
said_all [] h = refl
said_all (row ∷ rows) h = rw (row_said row h.1 h.2) (said_from [] row rows h.3)

rising : (n : ℕ) (rows : List FlowRow) → ((row : FlowRow) (others : List FlowRow) → rows ≡ row ∷ others → n ≤ row.slot) → IsNonDecreasingBy (λ (row : FlowRow). row.slot) rows → All (λ (row : FlowRow). row.slot ≤ 16777215) rows → All (λ (row : FlowRow). row.word < 2 ^ 64) rows → Rising n rows
rising n [] first order low fits = tt
rising n (row ∷ rows) first order low fits = (
  first row rows refl,
  All-head (λ (r : FlowRow). r.slot ≤ 16777215) row rows low,
  All-head (λ (r : FlowRow). r.word < 2 ^ 64) row rows fits,
  rising row.slot rows (next rows order) (λ i j d le lt. order (suc i) (suc j) d (omega arith) (omega arith)) (All-tail (λ (r : FlowRow). r.slot ≤ 16777215) row rows low) (All-tail (λ (r : FlowRow). r.word < 2 ^ 64) row rows fits),
)
  where
    next : (later : List FlowRow) → IsNonDecreasingBy (λ (r : FlowRow). r.slot) (row ∷ later) → (r : FlowRow) (others : List FlowRow) → later ≡ r ∷ others → row.slot ≤ r.slot
    next [] o r others e = absurd (cc)
    next (q ∷ later) o r others e = let same : q ≡ r = cc in subst (λ (x : FlowRow). row.slot ≤ x.slot) same (o 0 1 row (omega arith) (omega arith))

-- ---- the whole file

filled : (rows : List FlowRow) → AreFilled (map flow_fields rows)
filled [] = tt
filled (row ∷ rows) = (omega arith, filled rows)

as_rows : (rows : List FlowRow) → flow_file rows ≡ rows_text (map flow_fields rows)
unfolding flow_file rows_text
as_rows rows = sym (flat_map-map (row_text rows_writer) flow_fields rows)

-- a text whose first byte is of ASCII begins with no byte order mark
unmarked : (a : ℕ) (xs : List ℕ) → a < 128 → strip_bom (a ∷ xs) ≡ a ∷ xs
unfolding strip_bom
unmarked a [] h = refl
unmarked a (b ∷ []) h = refl
unmarked a (b ∷ c ∷ rest) h = rw (ne_eqb a 239 (omega arith)) refl

-- a text that has a first byte, of ASCII
record Begins (text : List ℕ) : Type 0 where
  first : ℕ
  others : List ℕ
  is : text ≡ first ∷ others
  small : first < 128

ascii_begins : (text : List ℕ) → 1 ≤ length text → IsAscii text → Begins text
ascii_begins [] some h = absurd (omega arith)
ascii_begins (a ∷ xs) some h = record { first = a; others = xs; is = refl; small = h 0 }

field_begins : (field : List ℕ) → Begins field → Begins (field_text rows_writer field)
field_begins field b = by (by_style rows_writer.style (needs_quotes rows_writer field))
  where
    by : (q : Bool) → Begins (if q then quoted rows_writer field else field)
    by true = record { first = 34; others = escaped rows_writer field ++ 34 ∷ []; is = refl; small = omega arith }
    by false = b

no_mark : (rows : List FlowRow) → All (λ (row : FlowRow). row.slot ≤ 16777215) rows → strip_bom (rows_text (map flow_fields rows)) ≡ rows_text (map flow_fields rows)
unfolding strip_bom rows_text
no_mark [] h = refl
no_mark (row ∷ rows) h =
    let low : row.slot ≤ 16777215 = All-head (λ (r : FlowRow). r.slot ≤ 16777215) row rows h in
    let short : IsShort row.slot = omega arith in
    let b : Begins (field_text rows_writer (decimal row.slot)) = field_begins (decimal row.slot) (ascii_begins (decimal row.slot) (decimal-some row.slot short) (decimal-ascii row.slot short)) in
    let f : List ℕ = fields_text rows_writer (hex 16 row.word ∷ []) in
    let e : List ℕ = (if is_blank rows_writer (flow_fields row) then 34 ∷ 34 ∷ [] else []) ++ 10 ∷ [] in
    let m : List ℕ = rows_text (map flow_fields rows) in
    subst (λ (text : List ℕ). strip_bom (((text ++ f) ++ e) ++ m) ≡ ((text ++ f) ++ e) ++ m) (sym b.is) (unmarked b.first (((b.others ++ f) ++ e) ++ m) b.small)

pub file_read : (rows : List FlowRow) → Rising 0 rows → All (λ (row : FlowRow). row.slot ≤ 16777215) rows → flow_of (rows_of (flow_file rows)) ≡ Ok rows
file_read rows h low =
    ap (λ (text : List ℕ). flow_of (rows_of text)) (as_rows rows) ∙ ap flow_of (text-read (map flow_fields rows) (filled rows) (no_mark rows low)) ∙ ap (λ r. refused_by r) (said_all rows h)

pub accepted : (entries : ℕ) (samples : List ℕ) → 1 ≤ entries → length samples ≤ 4194304 → flow_of (rows_of (flow_file (rows_of_samples entries samples))) ≡ Ok (rows_of_samples entries samples)
accepted entries samples low short =
    let slots : All (λ (row : FlowRow). row.slot ≤ 16777215) (rows_of_samples entries samples) = (λ k d l. (let b = slots_below entries samples low k d l in omega (arith, b))) in
    file_read (rows_of_samples entries samples) (rising 0 (rows_of_samples entries samples) (λ row others e. omega arith) (in_order_of_slots entries samples low) slots (words_below entries samples low)) slots
