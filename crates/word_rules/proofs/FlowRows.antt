-- The rows after slot t tell nothing of it.
use Rattle.std.proofs.Common.{ℕ, zero, suc, ◌+◌, ◌-◌, ◌*◌, ◌≡◌, ◌≤◌, ◌<◌, ◌==◌, nat_le, refl, sym, ap, ap₂, ◌∙◌, subst, Bool, true, false, ◌&&◌, List, [], ◌∷◌, ◌++◌, length, map, filter, reverse, take, drop, get_or, slice_index, min, Option, Some, None, arith}
use Rattle.std.specs.Option.{option_map_or}
use Rattle.std.specs.Int.{bit_at}
use Rattle.std.specs.List.{range_with_len}
use Rattle.std.proofs.lemmas.Bool.Decides.{nat_tests}
use Rattle.std.proofs.Math.Seq.{take-append-add}
use Rattle.std.proofs.lemmas.List.{get_or-drop, length-drop, get_or-append-add, length-append, take_all}
use Rattle.std.proofs.lemmas.List.Elements.{filter-append, All-append}
use Rattle.stream_model.specs.declared.rows.FlowRow.{FlowRow}
use Rattle.stream_model.specs.Calendar.{Told, told_by_word, told_by_row, told_from, told_by, on_by_latest, is_on, word_number}
use Rattle.word_rules.specs.Flows.{no_row, InOrder, NoneLater, with_row}

Later : ℕ → List FlowRow → Type 0
Later t [] = Unit {0}
Later t (row ∷ rows) = (t < row.slot) × Later t rows

all_later : (t : ℕ) (rows : List FlowRow) → ((i : ℕ) → i < length rows → t < (get_or rows i no_row).slot) → Later t rows
unfolding Later
all_later t [] h = tt
all_later t (row ∷ rows) h = (h 0 (omega arith), all_later t rows (λ i lt. h (suc i) (omega arith)))

and_false : (b : Bool) → (b && false) ≡ false
and_false true = refl
and_false false = refl

take_drop : (k : ℕ) (rows : List FlowRow) → take k rows ++ drop k rows ≡ rows
take_drop zero rows = refl
take_drop (suc k) [] = refl
take_drop (suc k) (row ∷ rows) = ap (λ (l : List FlowRow). row ∷ l) (take_drop k rows)

-- what counts at slot t for a channel
counts : ℕ → ℕ → Told → Bool
counts channel t e = (e.channel == channel) && nat_le e.slot t

apart : (xs ys : List Told) (channel t : ℕ) → filter (counts channel t) (xs ++ ys) ≡ filter (counts channel t) xs ++ filter (counts channel t) ys
apart xs ys channel t = filter-append (counts channel t) xs ys

not_yet : (channel t : ℕ) (e : Told) → t < e.slot → counts channel t e ≡ false
unfolding counts
not_yet channel t e h =
    let late : nat_le e.slot t ≡ false = grind (arith, nat_tests) in
    rw late (and_false (e.channel == channel))

word_none : (entries : List ℕ) (slot row word d channel t : ℕ) → t < slot → (places : List ℕ) →
    filter (counts channel t) (map (λ i. record { slot = slot; row = row; place = i; channel = slice_index entries (16 * d + i); on = bit_at word (55 - i) == 1 }) places) ≡ []
word_none entries slot row word d channel t h [] = refl
word_none entries slot row word d channel t h (i ∷ places) =
    rw (not_yet channel t (record { slot = slot; row = row; place = i; channel = slice_index entries (16 * d + i); on = bit_at word (55 - i) == 1 }) h) (word_none entries slot row word d channel t h places)

row_none : (entries : List ℕ) (r : ℕ) (row : FlowRow) (channel t : ℕ) → t < row.slot → (n : Option ℕ) → filter (counts channel t) (option_map_or (told_by_word entries row.slot r row.word) n []) ≡ []
row_none entries r row channel t h None = refl
row_none entries r row channel t h (Some d) = word_none entries row.slot r row.word d channel t h (range_with_len 0 (min 16 (length entries - 16 * d)))

later_none : (entries : List ℕ) (channel t r : ℕ) (earlier : List ℕ) (rows : List FlowRow) → Later t rows → filter (counts channel t) (told_from entries r earlier rows) ≡ []
unfolding Later
later_none entries channel t r earlier [] h = refl
later_none entries channel t r earlier (row ∷ rows) h =
    apart (told_by_row entries r earlier row) (told_from entries (r + 1) (row.word ∷ earlier) rows) channel t
    ∙ ap₂ (λ (p q : List Told). p ++ q) (row_none entries r row channel t h.0 (word_number (row.word ∷ earlier))) (later_none entries channel t (r + 1) (row.word ∷ earlier) rows h.1)

drop_later : (entries : List ℕ) (channel t r : ℕ) (earlier : List ℕ) (xs rows : List FlowRow) → Later t rows →
    filter (counts channel t) (told_from entries r earlier (xs ++ rows)) ≡ filter (counts channel t) (told_from entries r earlier xs)
drop_later entries channel t r earlier [] rows h = later_none entries channel t r earlier rows h
drop_later entries channel t r earlier (x ∷ xs) rows h =
    apart (told_by_row entries r earlier x) (told_from entries (r + 1) (x.word ∷ earlier) (xs ++ rows)) channel t
    ∙ ap (λ (q : List Told). filter (counts channel t) (told_by_row entries r earlier x) ++ q) (drop_later entries channel t (r + 1) (x.word ∷ earlier) xs rows h)
    ∙ sym (apart (told_by_row entries r earlier x) (told_from entries (r + 1) (x.word ∷ earlier) xs) channel t)

on_counts : (entries : List ℕ) (rows : List FlowRow) (channel t : ℕ) → is_on entries rows channel t ≡ on_by_latest (reverse (filter (counts channel t) (told_by entries rows)))
unfolding counts
on_counts entries rows channel t = refl

-- the rows of slot t at most say which channels are on at slot t
pub on_by_part : (entries : List ℕ) (rows : List FlowRow) (k channel t : ℕ) → k ≤ length rows → InOrder rows → (k < length rows → t < (get_or rows k no_row).slot) →
    is_on entries (take k rows) channel t ≡ is_on entries rows channel t
on_by_part entries rows k channel t part ord late =
    let rest : Later t (drop k rows) = all_later t (drop k rows) (λ i lt. (
    let n : length (drop k rows) ≡ length rows - k = length-drop k rows in
    let at : get_or (drop k rows) i no_row ≡ get_or rows (k + i) no_row = get_or-drop k rows i no_row in
    let h = late (omega arith) in
    let o = ord k (k + i) (omega arith) (omega arith) in
    rw at (omega arith))) in
    on_counts entries (take k rows) channel t
    ∙ ap (λ (l : List Told). on_by_latest (reverse l)) (sym (drop_later entries channel t 0 [] (take k rows) (drop k rows) rest))
    ∙ ap (λ (l : List FlowRow). on_by_latest (reverse (filter (counts channel t) (told_by entries l)))) (take_drop k rows)
    ∙ sym (on_counts entries rows channel t)

-- so do the rows that were heard with the first of the others
pub on_by_first : (entries : List ℕ) (heard items rows : List FlowRow) (k channel t : ℕ) → heard ++ items ≡ rows → k ≤ length items → InOrder rows → (k < length items → t < (get_or items k no_row).slot) →
    is_on entries (heard ++ take k items) channel t ≡ is_on entries rows channel t
on_by_first entries heard items rows k channel t shown part ord late =
    let n : ℕ = length heard + k in
    let whole : length rows ≡ length heard + length items = ap (λ (xs : List FlowRow). length xs) (sym shown) ∙ length-append heard items in
    let first : take n rows ≡ heard ++ take k items = ap (λ (xs : List FlowRow). take n xs) (sym shown) ∙ take-append-add heard items k in
    let at : get_or rows n no_row ≡ get_or items k no_row = ap (λ (xs : List FlowRow). get_or xs n no_row) (sym shown) ∙ get_or-append-add heard items k no_row in
    ap (λ (xs : List FlowRow). is_on entries xs channel t) (sym first)
    ∙ on_by_part entries rows n channel t (omega arith) ord (λ lt. (let h = late (omega arith) in rw at h))

-- where none of the rows is of a later slot, all of them are taken
pub all_first : (heard items rows : List FlowRow) (k t : ℕ) → heard ++ items ≡ rows → k ≤ length items → NoneLater rows t → (k < length items → t < (get_or items k no_row).slot) → take k items ≡ items
all_first heard items rows k t shown part none late =
    let whole : length rows ≡ length heard + length items = ap (λ (xs : List FlowRow). length xs) (sym shown) ∙ length-append heard items in
    let at : get_or rows (length heard + k) no_row ≡ get_or items k no_row = ap (λ (xs : List FlowRow). get_or xs (length heard + k) no_row) (sym shown) ∙ get_or-append-add heard items k no_row in
    let not_less : k < length items → ⊥ = (λ lt. (
    let h = late lt in
    let n : (get_or rows (length heard + k) no_row).slot ≤ t = none (length heard + k) no_row (omega arith) in
    let m : (get_or items k no_row).slot ≤ t = subst (λ (row : FlowRow). row.slot ≤ t) at n in
    omega arith)) in
    let all : length items ≤ k = omega (arith, not_less) in
    take_all k items all

pub none_later : (rows : List FlowRow) (t word : ℕ) → NoneLater rows t → NoneLater (with_row rows t word) t
none_later rows t word h = All-append (λ (row : FlowRow). row.slot ≤ t) rows (record { slot = t; word = word } ∷ []) h one where
  one : NoneLater (record { slot = t; word = word } ∷ []) t
  one zero d lt = omega arith
  one (suc i) d lt = omega arith

-- a row of a slot after t says nothing of slot t
pub on_before : (entries : List ℕ) (rows : List FlowRow) (slot word channel t : ℕ) → t < slot → is_on entries (with_row rows slot word) channel t ≡ is_on entries rows channel t
unfolding Later
on_before entries rows slot word channel t lt =
    let later : Later t (record { slot = slot; word = word } ∷ []) = (lt, tt) in
    on_counts entries (with_row rows slot word) channel t
    ∙ ap (λ (l : List Told). on_by_latest (reverse l)) (drop_later entries channel t 0 [] rows (record { slot = slot; word = word } ∷ []) later)
    ∙ sym (on_counts entries rows channel t)
