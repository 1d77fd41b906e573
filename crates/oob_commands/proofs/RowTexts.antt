-- The text of rows, one after another.
use Rattle.std.proofs.Common.{◌≡◌, ℕ, ◌+◌, List, [], ◌∷◌, ◌++◌, Some, length, set, get_or, refl, sym, ap, ◌∙◌, append-nil, arith, ◌≤◌, ◌<◌, true, nat_lt, take, drop}
use Rattle.std.proofs.lemmas.Bool.Decides.{nat_tests}
use Rattle.std.proofs.lemmas.List.{take-append-drop}
use Rattle.oob_flow.specs.Reading.{rows_of_bits}
use Rattle.oob_flow.proofs.Going.{go_on}
use Rattle.std.specs.List.{flat_map}
use Rattle.std.specs.Fmt.{decimal}
use Rattle.std.proofs.lemmas.List.{length-append, length-map, map-append}
use Rattle.std.proofs.lemmas.List.Concat.{flat_map-append}
use Rattle.csv.specs.Writing.{row_text}
use Rattle.stream_model.specs.declared.rows.FlowRow.{FlowRow}
use Rattle.oob_flow.specs.Reading.{rows_at, rows_of_samples}
use Rattle.csv_rows.specs.Written.{rows_writer}
use Rattle.oob_commands.specs.FlowFile.{flow_fields, flow_file}
use Rattle.lk_base.specs.Hex.{hex}

abbrev one_row : FlowRow → List ℕ
one_row row = row_text rows_writer (flow_fields row)

pub file_more : (before more now : List FlowRow) → now ≡ before ++ more → flow_file now ≡ flow_file before ++ flow_file more
unfolding flow_file
file_more before more now e = ap (flat_map one_row) e ∙ flat_map-append one_row before more

pub file_one : (row : FlowRow) → flow_file (row ∷ []) ≡ one_row row
unfolding flow_file
file_one row = append-nil (one_row row)

pub file_none : flow_file [] ≡ []
unfolding flow_file
file_none = refl

pub word_more : (slot : ℕ) (before : List ℕ) (word : ℕ) (now : List ℕ) (old new : List ℕ) → now ≡ before ++ word ∷ [] → Some old ≡ Some (flow_file (rows_at slot before)) → new ≡ old ++ row_text rows_writer (decimal slot ∷ hex 16 word ∷ [])
    → Some new ≡ Some (flow_file (rows_at slot now))
word_more slot before word now old new e f g =
    let same : old ≡ flow_file (rows_at slot before) = cc f in
    let row : FlowRow = record { slot = slot; word = word } in
    ap Some (g ∙ ap (λ (bs : List ℕ). bs ++ one_row row) same ∙ ap (λ (bs : List ℕ). flow_file (rows_at slot before) ++ bs) (sym (file_one row))
    ∙ sym (file_more (rows_at slot before) (row ∷ []) (rows_at slot now) (ap (rows_at slot) e ∙ map-append (λ (w : ℕ). record { slot = slot; word = w }) before (word ∷ []))))

pub rows_put : (before more now : List FlowRow) (bytes : List ℕ) → now ≡ before ++ more → bytes ≡ flow_file more → set (flow_file before ∷ []) 0 (get_or (flow_file before ∷ []) 0 [] ++ bytes) ≡ flow_file now ∷ []
rows_put before more now bytes e is = ap (λ b. (flow_file before ++ b) ∷ []) is ∙ ap (λ c. c ∷ []) (sym (file_more before more now e))

pub same_file : (before now : List FlowRow) → now ≡ before ++ [] → flow_file before ∷ [] ≡ flow_file now ∷ []
same_file before now e = ap (λ rows. flow_file rows ∷ []) (sym (e ∙ append-nil before))

pub rows_count : (before now : List FlowRow) (slot : ℕ) (words : List ℕ) (n : ℕ) → now ≡ before ++ rows_at slot words → n ≡ length words → length now ≡ length before + n
rows_count before now slot words n e is = ap length e ∙ length-append before (rows_at slot words) ∙ ap (λ m. length before + m) (length-map words _ ∙ sym is)

pub small : (x : ℕ) → nat_lt x 8 ≡ true → x < 8
small x h = grind (arith, nat_tests)

pub no_rows : (entries : ℕ) → rows_of_samples entries [] ≡ []
unfolding rows_of_samples rows_of_bits
no_rows entries = refl

-- the whole file begins with the rows of some first samples
pub rows_begin : (entries : ℕ) (samples : List ℕ) (slot : ℕ) → 1 ≤ entries → (rest : List ℕ) × (flow_file (rows_of_samples entries samples) ≡ flow_file (rows_of_samples entries (take slot samples)) ++ rest)
rows_begin entries samples slot low =
    let done : List ℕ = take slot samples in
    let rest : List ℕ = drop slot samples in
    let split : done ++ rest ≡ samples = take-append-drop slot samples in
    let on = go_on entries done rest low in
    let whole : rows_of_samples entries samples ≡ rows_of_samples entries done ++ on.0 = ap (rows_of_samples entries) (sym split) ∙ on.1 in
    (flow_file on.0, file_more (rows_of_samples entries done) on.0 (rows_of_samples entries samples) whole)
