-- The words file and the table, word after word and row after row.
use Rattle.std.proofs.Common.{◌≡◌, List, [], ◌∷◌, ◌++◌, map, ℕ, refl, sym, ap, ◌∙◌, append-nil, append_assoc}
use Rattle.std.specs.List.{flat_map}
use Rattle.std.proofs.lemmas.List.{map-append}
use Rattle.std.proofs.lemmas.List.Concat.{flat_map-append}
use lib.Chars.{codes}
use Rattle.csv.specs.Writing.{fields_text, is_blank, row_text}
use Rattle.csv_rows.specs.Written.{rows_text, rows_writer}
use Rattle.lk_base.specs.declared.word.RxWord.{RxWord}
use Rattle.link_reports.specs.Lines.{line_end}
use Rattle.lane_words.specs.declared.places.PlaceRow.{PlaceRow}
use Rattle.lane_words.specs.WordsFile.{rx_word_bytes, rx_words_file}
use Rattle.gather_commands.specs.Table.{heading, place_fields, place_rows, places_table}

pub file_more : (words more : List RxWord) → rx_words_file words ++ rx_words_file more ≡ rx_words_file (words ++ more)
file_more words more = sym (flat_map-append rx_word_bytes words more)

pub rows_more : (before more : List PlaceRow) → place_rows (before ++ more) ≡ place_rows before ++ place_rows more
unfolding rows_text
rows_more before more = ap (λ rows. flat_map (row_text rows_writer) rows) (map-append place_fields before more) ∙ flat_map-append (row_text rows_writer) (map place_fields before) (map place_fields more)

rows_none : place_rows [] ≡ []
unfolding rows_text
rows_none = refl

-- one row is written
pub row_alone : (row : PlaceRow) → place_rows (row ∷ []) ≡ row_text rows_writer (place_fields row)
unfolding rows_text
row_alone row = append-nil (row_text rows_writer (place_fields row))

pub table_more : (before more : List PlaceRow) → places_table before ++ place_rows more ≡ places_table (before ++ more)
table_more before more = append_assoc (rows_text (heading ∷ [])) (place_rows before) (place_rows more) ∙ ap (λ (b : List ℕ). rows_text (heading ∷ []) ++ b) (sym (rows_more before more))

pub table_none : rows_text (heading ∷ []) ≡ places_table []
table_none = sym (ap (λ (b : List ℕ). rows_text (heading ∷ []) ++ b) rows_none ∙ append-nil (rows_text (heading ∷ [])))

-- the heading, byte for byte
pub heading_text : codes "word,group,index,why" ++ line_end ≡ rows_text (heading ∷ [])
unfolding fields_text is_blank rows_text
heading_text = refl
