-- The table, row after row.
use Rattle.std.proofs.Common.{◌≡◌, ℕ, suc, ◌+◌, List, [], ◌∷◌, ◌++◌, length, map, refl, sym, ap, ◌∙◌, append-nil, append_assoc, arith, Some}
use Rattle.std.specs.Fmt.{digits}
use Rattle.std.specs.List.{flat_map}
use Rattle.std.proofs.lemmas.List.{map-append}
use Rattle.std.proofs.lemmas.List.Concat.{flat_map-append}
use lib.Chars.{codes}
use Rattle.csv.specs.Writing.{fields_text, is_blank, row_text}
use Rattle.link_reports.specs.Lines.{line_end}
use Rattle.csv_rows.specs.Written.{rows_text, rows_writer}
use Rattle.lane_events.specs.declared.types.LaneEvent.{LaneEvent}
use Rattle.inspect_commands.specs.Table.{event_fields, event_rows, events_table, heading, lane_rows}
use Rattle.inspect_commands.specs.InspectLaws.{WorkedTables}

-- ---- the rows of a lane

pub rows_more : (lane : ℕ) (before more : List LaneEvent) → event_rows lane (before ++ more) ≡ event_rows lane before ++ event_rows lane more
unfolding rows_text
rows_more lane before more =
    ap (λ rows. flat_map (row_text rows_writer) rows) (map-append (event_fields lane) before more) ∙ flat_map-append (row_text rows_writer) (map (event_fields lane) before) (map (event_fields lane) more)

pub rows_none : (lane : ℕ) → event_rows lane [] ≡ []
unfolding rows_text
rows_none lane = refl

pub row_alone : (lane : ℕ) (event : LaneEvent) → event_rows lane (event ∷ []) ≡ row_text rows_writer (event_fields lane event)
unfolding rows_text
row_alone lane event = append-nil (row_text rows_writer (event_fields lane event))

-- the row of one more event is written
pub row_more : (lane : ℕ) (before : List LaneEvent) (event : LaneEvent) (now : List LaneEvent) (old new : List ℕ) → now ≡ before ++ event ∷ [] → Some old ≡ Some (event_rows lane before) → new ≡ old ++ row_text rows_writer (event_fields lane event) → Some new ≡ Some (event_rows lane now)
row_more lane before event now old new e f g =
    let same : old ≡ event_rows lane before = cc f in
    ap Some (g ∙ ap (λ (bs : List ℕ). bs ++ row_text rows_writer (event_fields lane event)) same ∙ ap (λ (bs : List ℕ). event_rows lane before ++ bs) (sym (row_alone lane event))
    ∙ sym (ap (event_rows lane) e ∙ rows_more lane before (event ∷ [])))

-- a text and then the rows of a lane, and of more events of it
pub given_more : (given : List ℕ) (lane : ℕ) (before more : List LaneEvent) → (given ++ event_rows lane before) ++ event_rows lane more ≡ given ++ event_rows lane (before ++ more)
given_more given lane before more = append_assoc given (event_rows lane before) (event_rows lane more) ∙ ap (λ (b : List ℕ). given ++ b) (sym (rows_more lane before more))

pub given_none : (given : List ℕ) (lane : ℕ) → given ≡ given ++ event_rows lane []
given_none given lane = sym (append-nil given) ∙ ap (λ (b : List ℕ). given ++ b) (sym (rows_none lane))

-- ---- the rows of lanes

rows_from : (n : ℕ) (lanes : List (List LaneEvent)) (events : List LaneEvent) → lane_rows n (lanes ++ events ∷ []) ≡ lane_rows n lanes ++ event_rows (n + length lanes) events
rows_from n [] events =
    let e : n + 0 ≡ n = omega arith in
    append-nil (event_rows n events) ∙ sym (ap (λ k. event_rows k events) e)
rows_from n (first ∷ lanes) events =
    let e : suc n + length lanes ≡ n + length (first ∷ lanes) = omega arith in
    ap (λ (t : List ℕ). event_rows n first ++ t) (rows_from (suc n) lanes events ∙ ap (λ k. lane_rows (suc n) lanes ++ event_rows k events) e)
    ∙ sym (append_assoc (event_rows n first) (lane_rows (suc n) lanes) (event_rows (n + length (first ∷ lanes)) events))

-- one more lane
pub next_lane : (lanes : List (List LaneEvent)) (events : List LaneEvent) (lane : ℕ) → length lanes ≡ lane → events_table lanes ++ event_rows lane events ≡ events_table (lanes ++ events ∷ [])
next_lane lanes events lane count =
    let e : lane ≡ 0 + length lanes = omega arith in
    append_assoc (rows_text (heading ∷ [])) (lane_rows 0 lanes) (event_rows lane events)
    ∙ ap (λ (b : List ℕ). rows_text (heading ∷ []) ++ b) (ap (λ k. lane_rows 0 lanes ++ event_rows k events) e ∙ sym (rows_from 0 lanes events))

pub table_none : rows_text (heading ∷ []) ≡ events_table []
table_none = sym (append-nil (rows_text (heading ∷ [])))

-- the heading, byte for byte
pub heading_text : codes "lane,bit,event" ++ line_end ≡ rows_text (heading ∷ [])
unfolding fields_text is_blank rows_text
heading_text = refl

-- ---- examples

pub worked_tables : WorkedTables
unfolding digits fields_text is_blank rows_text
worked_tables = record { none = refl; three = refl; counted = refl; name = refl }
