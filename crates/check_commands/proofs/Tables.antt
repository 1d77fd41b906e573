-- The table, row after row.
use Rattle.std.proofs.Common.{◌≡◌, ◌==◌, true, length, eqb-true, arith, List, [], ◌∷◌, ◌++◌, map, ℕ, refl, sym, ap, ◌∙◌, append-nil, append_assoc, Some}
use Rattle.std.specs.List.{flat_map}
use Rattle.std.proofs.lemmas.List.{map-append}
use Rattle.std.proofs.lemmas.List.Concat.{flat_map-append}
use lib.Chars.{codes}
use Rattle.csv.specs.Writing.{fields_text, is_blank, row_text}
use Rattle.link_reports.specs.Lines.{line_end}
use Rattle.csv_rows.specs.Written.{rows_text, rows_writer}
use Rattle.run_shell.specs.Outputs.{Prefixes}
use Rattle.word_rules.specs.declared.fault.Fault.{Fault}
use Rattle.check_commands.specs.Table.{fault_fields, fault_rows, faults_table, heading}

pub rows_more : (before more : List Fault) → fault_rows (before ++ more) ≡ fault_rows before ++ fault_rows more
unfolding rows_text
rows_more before more = ap (λ rows. flat_map (row_text rows_writer) rows) (map-append fault_fields before more) ∙ flat_map-append (row_text rows_writer) (map fault_fields before) (map fault_fields more)

pub rows_none : fault_rows [] ≡ []
unfolding rows_text
rows_none = refl

pub no_faults : (faults : List Fault) → (length faults == 0) ≡ true → fault_rows faults ≡ []
no_faults [] h = rows_none
no_faults (f ∷ fs) h = (let z : length (f ∷ fs) ≡ 0 = eqb-true (length (f ∷ fs)) 0 h in absurd (omega (arith, z)))

pub row_alone : (fault : Fault) → fault_rows (fault ∷ []) ≡ row_text rows_writer (fault_fields fault)
unfolding rows_text
row_alone fault = append-nil (row_text rows_writer (fault_fields fault))

pub table_more : (before more : List Fault) → faults_table before ++ fault_rows more ≡ faults_table (before ++ more)
table_more before more = append_assoc (rows_text (heading ∷ [])) (fault_rows before) (fault_rows more) ∙ ap (λ (b : List ℕ). rows_text (heading ∷ []) ++ b) (sym (rows_more before more))

pub table_none : rows_text (heading ∷ []) ≡ faults_table []
table_none = sym (ap (λ (b : List ℕ). rows_text (heading ∷ []) ++ b) rows_none ∙ append-nil (rows_text (heading ∷ [])))

-- a table begins with that of the faults before
pub table_begins : (before more all : List Fault) → before ++ more ≡ all → Prefixes (faults_table before ∷ []) (faults_table all ∷ [])
table_begins before more all e = ((fault_rows more, ap faults_table (sym e) ∙ sym (table_more before more)), tt)

-- the row of one more fault is written
pub row_more : (before : List Fault) (fault : Fault) (now : List Fault) (old new : List ℕ) → now ≡ before ++ fault ∷ [] → Some old ≡ Some (fault_rows before) → new ≡ old ++ row_text rows_writer (fault_fields fault) → Some new ≡ Some (fault_rows now)
row_more before fault now old new e f g =
    let same : old ≡ fault_rows before = cc f in
    ap Some (g ∙ ap (λ (bs : List ℕ). bs ++ row_text rows_writer (fault_fields fault)) same ∙ ap (λ (bs : List ℕ). fault_rows before ++ bs) (sym (row_alone fault))
    ∙ sym (ap fault_rows e ∙ rows_more before (fault ∷ [])))

-- the heading, byte for byte
pub heading_text : codes "word,rule,channel" ++ line_end ≡ rows_text (heading ∷ [])
unfolding fields_text is_blank rows_text
heading_text = refl
