-- What rows without a fault say, row beside row, and the text of a key's row found by it.
use Rattle.std.proofs.Common.{◌≡◌, ℕ, ◌+◌, ◌<◌, ◌≤◌, suc, zero, Bool, true, false, cond, Option, Some, None, Result, Ok, Err, List, [], ◌∷◌, ◌++◌, length, get_or, drop, map, refl, ap, subst, sym, arith, add-one}
use Rattle.std.specs.Prelude.{not}
use Rattle.std.specs.List.{cons_option, list_all, find}
use Rattle.std.specs.Option.{option_map, option_map_or}
use Rattle.std.proofs.lemmas.Bool.{and_parts}
use Rattle.std.proofs.Math.Seq.{drop-cons}
use Rattle.csv.specs.Records.{fields_of}
use Rattle.csv.specs.declared.record.ByteRecord.{ByteRecord}
use Rattle.csv_rows.specs.Rows.{Row}
use Rattle.csv_rows.specs.Fields.{field, is_text}
use Rattle.csv_rows.specs.Tables.{KeyRule, place_in, rule_at}
use Rattle.csv_rows.specs.Items.{item_of, item_by}
use Rattle.csv_rows.specs.Checked.{ok_item, items_of, has_key, says, text_of, text_beside, fault_by, fault_of, first_fault}
use Rattle.csv_rows.specs.Said.{Item}
use Rattle.csv_rows.specs.declared.items.RowFault.{RowFault}
use Rattle.csv_rows.specs.declared.items.RowFault.TheVariants as fault
use Rattle.csv_rows.proofs.Sound.{no-first}

-- ---- what rows without a fault say

say-step : (keys : List KeyRule) (before : List Item) (r : Result Item RowFault) (rs : List (Result Item RowFault)) (items : List Item) → fault_by keys before r ≡ None → rs ≡ map Ok items → r ∷ rs ≡ map Ok (cons_option (ok_item r) items)
say-step keys before (Ok item) rs items e h = ap (λ (t : List (Result Item RowFault)). Ok item ∷ t) h
say-step keys before (Err f) rs items e h = absurd (cc e)

-- rows without a fault say the items, one each
pub rows-say : (keys : List KeyRule) (before rows : List Row) → first_fault keys before rows ≡ None → map (item_of keys) rows ≡ map Ok (items_of keys rows)
unfolding first_fault
rows-say keys before [] e = refl
rows-say keys before (row ∷ rows) e =
    let two = no-first (length before + 1) (fault_of keys before row) (first_fault keys (before ++ row ∷ []) rows) e in
    say-step keys (items_of keys before) (item_of keys row) (map (item_of keys) rows) (items_of keys rows) two.0 (rows-say keys (before ++ row ∷ []) rows two.1)

-- as many items as rows
pub rows-each : (keys : List KeyRule) (rows : List Row) (items : List Item) → map (item_of keys) rows ≡ map Ok items → length items ≡ length rows
rows-each keys [] [] e = refl
rows-each keys [] (x ∷ xs) e = absurd (cc e)
rows-each keys (r ∷ rs) [] e = absurd (cc e)
rows-each keys (r ∷ rs) (x ∷ xs) e = let rest : map (item_of keys) rs ≡ map Ok xs = cc e in ap suc (rows-each keys rs xs rest)

-- a row that says an item is text
pub item-text : (keys : List KeyRule) (row : Row) (item : Item) → item_of keys row ≡ Ok item → is_text row ≡ true
unfolding item_of
item-text keys row item e = by (is_text row) (item_by row (place_in keys (field row 0)) (rule_at keys (place_in keys (field row 0)))) e
  where
    by : (b : Bool) (r : Result Item RowFault) → cond {A = Result Item RowFault} (not b) (Err fault.Text) r ≡ Ok item → b ≡ true
    by true r h = refl
    by false r h = absurd (cc h)

pub rows-text : (keys : List KeyRule) (rows : List Row) (items : List Item) → map (item_of keys) rows ≡ map Ok items → list_all is_text rows ≡ true
rows-text keys [] items e = refl
rows-text keys (r ∷ rs) [] e = absurd (cc e)
rows-text keys (r ∷ rs) (x ∷ xs) e =
    let head : item_of keys r ≡ Ok x = cc e in
    let rest : map (item_of keys) rs ≡ map Ok xs = cc e in
    rw (item-text keys r x head, rows-text keys rs xs rest) refl

-- the item at a row's place is what the row says
pub says-at : (keys : List KeyRule) (rows : List Row) (items : List Item) (i : ℕ) (row : Row) (item : Item) → map (item_of keys) rows ≡ map Ok items → i < length items → item_of keys (get_or rows i row) ≡ Ok (get_or items i item)
says-at keys [] [] i row item e lt = absurd (omega (arith, lt))
says-at keys [] (x ∷ xs) i row item e lt = absurd (cc e)
says-at keys (r ∷ rs) [] i row item e lt = absurd (cc e)
says-at keys (r ∷ rs) (x ∷ xs) zero row item e lt = cc e
says-at keys (r ∷ rs) (x ∷ xs) (suc i) row item e lt = let rest : map (item_of keys) rs ≡ map Ok xs = cc e in says-at keys rs xs i row item rest (omega (arith, lt))

-- ---- the text of a key's row

-- the text is that of the key's first row
pub text-beside : (keys : List KeyRule) (rows : List Row) (items : List Item) (key : ℕ) → map (item_of keys) rows ≡ map Ok items → text_beside key items rows ≡ text_of keys rows key
unfolding text_of text_beside
text-beside keys [] [] key e = refl
text-beside keys [] (x ∷ xs) key e = absurd (cc e)
text-beside keys (r ∷ rs) [] key e = absurd (cc e)
text-beside keys (r ∷ rs) (x ∷ xs) key e =
    let head : item_of keys r ≡ Ok x = cc e in
    let rest : map (item_of keys) rs ≡ map Ok xs = cc e in
    let same : says keys key r ≡ has_key key x = ap (λ (i : Result Item RowFault). option_map_or (has_key key) (ok_item i) false) head in
    by (has_key key x) (says keys key r) (text_beside key xs rs) (find (says keys key) rs) same (text-beside keys rs xs key rest)
  where
    by : (b s : Bool) (t : Option (List ℕ)) (found : Option Row) → s ≡ b → t ≡ option_map (λ row. field row 1) found → cond b (Some (field r 1)) t ≡ option_map (λ row. field row 1) (cond s (Some r) found)
    by true true t found same h = refl
    by false false t found same h = h
    by true false t found same h = absurd (cc same)
    by false true t found same h = absurd (cc same)

-- ---- row by row

pub beside-more : (key i : ℕ) (items : List Item) (rows : List Row) (x : Item) → i < length items → i < length rows → has_key key (get_or items i x) ≡ false → text_beside key (drop i items) (drop i rows) ≡ text_beside key (drop (i + 1) items) (drop (i + 1) rows)
unfolding text_beside
beside-more key i items rows x few less e = rw (drop-cons items i x, drop-cons rows i [], add-one i, e) refl

pub beside-here : (key i : ℕ) (items : List Item) (rows : List Row) (x : Item) → i < length items → i < length rows → has_key key (get_or items i x) ≡ true → text_beside key (drop i items) (drop i rows) ≡ Some (field (get_or rows i []) 1)
unfolding text_beside
beside-here key i items rows x few less e = rw (drop-cons items i x, drop-cons rows i [], e) refl

pub beside-none : (key i : ℕ) (items : List Item) (rows : List Row) → length items ≤ i → text_beside key (drop i items) rows ≡ None
unfolding text_beside
beside-none key zero [] rows few = refl
beside-none key (suc i) [] rows few = refl
beside-none key zero (x ∷ xs) rows few = absurd (omega (arith, few))
beside-none key (suc i) (x ∷ xs) rows few = beside-none key i xs rows (omega (arith, few))

-- the row at a place, by its fields
pub fields-at : (rows : List ByteRecord) (i : ℕ) (r : ByteRecord) → i < length rows → r ≡ get_or rows i r → get_or (map fields_of rows) i [] ≡ fields_of r
fields-at [] i r lt e = absurd (omega (arith, lt))
fields-at (x ∷ xs) zero r lt e = ap fields_of (sym e)
fields-at (x ∷ xs) (suc i) r lt e = fields-at xs i r (omega (arith, lt)) e

pub text-row : (rows : List ByteRecord) (i : ℕ) (r : ByteRecord) → list_all is_text (map fields_of rows) ≡ true → i < length rows → r ≡ get_or rows i r → is_text (fields_of r) ≡ true
text-row [] i r all lt e = absurd (omega (arith, lt))
text-row (x ∷ xs) zero r all lt e = subst (λ (z : ByteRecord). is_text (fields_of z) ≡ true) (sym e) (and_parts (is_text (fields_of x)) _ all).0
text-row (x ∷ xs) (suc i) r all lt e = text-row xs i r (and_parts (is_text (fields_of x)) _ all).1 (omega (arith, lt)) e
