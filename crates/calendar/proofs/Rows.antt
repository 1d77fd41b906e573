-- What one more row tells.
use Rattle.std.proofs.Common.{◌≡◌, ℕ, zero, suc, ◌+◌, ◌-◌, ◌*◌, ◌<◌, min, true, false, List, [], ◌∷◌, ◌++◌, length, map, reverse, take, drop, ◌==◌, get_or, Some, None, refl, sym, ap, ap₂, ◌∙◌, arith, append_assoc, append-nil}
use Rattle.std.specs.List.{range_with_len}
use Rattle.std.specs.Option.{option_map}
use Rattle.std.specs.Int.{bit_at}
use Rattle.std.proofs.lemmas.List.{reverse-append, get_or-take, length-take, length-drop}
use Rattle.stream_model.specs.Calendar.{is_valid, word_number, told_by_row, told_by_word, told_from, told_by}
use Rattle.lk_base.specs.Fields.{flow_field, reset_field}
use Rattle.lk_base.proofs.Lists.{map_range_same}
use Rattle.stream_model.specs.declared.rows.FlowRow.{FlowRow}
use Rattle.calendar.specs.Changes.{words_back, told_back, told_by_bits}
use Rattle.stream_model.proofs.OneStream.{flow_bit}

-- ---- the number of a word

pub number_invalid : (w : ℕ) (earlier : List ℕ) → is_valid w ≡ false → word_number (w ∷ earlier) ≡ None
unfolding word_number
number_invalid w earlier h = rw h refl

pub number_reset : (w : ℕ) (earlier : List ℕ) → is_valid w ≡ true → reset_field w ≡ 1 → word_number (w ∷ earlier) ≡ Some 0
unfolding word_number
number_reset w earlier h r = rw (h, r) refl

pub number_next : (w : ℕ) (earlier : List ℕ) → is_valid w ≡ true → reset_field w ≡ 0 → word_number (w ∷ earlier) ≡ option_map suc (word_number earlier)
unfolding word_number
number_next w earlier h r = rw (h, r) refl

-- ---- one more row

map-more : {X Y : Type 0} (f : X → Y) (xs : List X) (x : X) → map f (xs ++ x ∷ []) ≡ map f xs ++ f x ∷ []
map-more f [] x = refl
map-more f (y ∷ xs) x = ap (λ zs. f y ∷ zs) (map-more f xs x)

pub words_more : (rows : List FlowRow) (row : FlowRow) → words_back (rows ++ row ∷ []) ≡ row.word ∷ words_back rows
words_more rows row = ap reverse (map-more (λ (r : FlowRow). r.word) rows row) ∙ reverse-append (map (λ (r : FlowRow). r.word) rows) (row.word ∷ [])

from_more : (entries : List ℕ) (n : ℕ) (earlier : List ℕ) (rows : List FlowRow) (row : FlowRow)
    → told_from entries n earlier (rows ++ row ∷ []) ≡ told_from entries n earlier rows ++ told_by_row entries (n + length rows) (words_back rows ++ earlier) row
from_more entries n earlier [] row = let e : n + 0 ≡ n = omega arith in rw e (append-nil (told_by_row entries n earlier row))
from_more entries n earlier (r ∷ rows) row =
    let e : n + 1 + length rows ≡ n + suc (length rows) = omega arith in
    let words : words_back rows ++ r.word ∷ earlier ≡ words_back (r ∷ rows) ++ earlier =
    sym (ap (λ xs. xs ++ earlier) (reverse-append (r.word ∷ []) (map (λ (q : FlowRow). q.word) rows)) ∙ append_assoc (words_back rows) (r.word ∷ []) earlier) in
    ap (λ xs. told_by_row entries n earlier r ++ xs) (from_more entries (n + 1) (r.word ∷ earlier) rows row ∙ ap₂ (λ m ws. told_from entries (n + 1) (r.word ∷ earlier) rows ++ told_by_row entries m ws row) e words)
    ∙ sym (append_assoc (told_by_row entries n earlier r) (told_from entries (n + 1) (r.word ∷ earlier) rows) (told_by_row entries (n + suc (length rows)) (words_back (r ∷ rows) ++ earlier) row))

pub told_more : (entries : List ℕ) (rows : List FlowRow) (row : FlowRow) → told_by entries (rows ++ row ∷ []) ≡ told_by entries rows ++ told_by_row entries (length rows) (words_back rows) row
told_more entries rows row = from_more entries 0 [] rows row ∙ ap₂ (λ (n : ℕ) ws. told_by entries rows ++ told_by_row entries n ws row) (let e : 0 + length rows ≡ length rows = omega arith in e) (append-nil (words_back rows))

pub told_back_more : (entries : List ℕ) (rows : List FlowRow) (row : FlowRow) → told_back entries (rows ++ row ∷ []) ≡ reverse (told_by_row entries (length rows) (words_back rows) row) ++ told_back entries rows
told_back_more entries rows row = ap reverse (told_more entries rows row) ∙ reverse-append (told_by entries rows) (told_by_row entries (length rows) (words_back rows) row)

-- ---- the entries of a word

get_or-drop : (xs : List ℕ) (n i : ℕ) → get_or (drop n xs) i 0 ≡ get_or xs (n + i) 0
get_or-drop xs zero i = let e : i ≡ 0 + i = omega arith in ap (λ n. get_or xs n 0) e
get_or-drop [] (suc n) i = refl
get_or-drop (x ∷ xs) (suc n) i = let e : suc n + i ≡ suc (n + i) = omega arith in rw e (get_or-drop xs n i)

pub told_same : (entries : List ℕ) (slot row w d first end : ℕ) → first ≡ min (16 * d) (length entries) → end ≡ min (length entries) (first + 16)
    → map (told_by_bits slot row (take (end - first) (drop first entries)) (flow_field w)) (range_with_len 0 (length (take (end - first) (drop first entries)))) ≡ told_by_word entries slot row w d
told_same entries slot row w d first end f e =
    let part : List ℕ = take (end - first) (drop first entries) in
    let dropped : length (drop first entries) ≡ length entries - first = length-drop first entries in
    let taken : length part ≡ min (end - first) (length (drop first entries)) = length-take (end - first) (drop first entries) in
    let count : length part ≡ min 16 (length entries - 16 * d) = omega arith in
    rw count (map_range_same (told_by_bits slot row part (flow_field w)) _ (min 16 (length entries - 16 * d)) (λ i h.
    let at : first ≡ 16 * d = omega arith in
    let small : i < end - first = omega arith in
    let place : 40 + (15 - i) ≡ 55 - i = omega arith in
    let channel : get_or part i 0 ≡ get_or entries (16 * d + i) 0 = get_or-take (end - first) (drop first entries) i 0 small ∙ get_or-drop entries first i ∙ ap (λ n. get_or entries (n + i) 0) at in
    let bit : bit_at (flow_field w) (15 - i) ≡ bit_at w (55 - i) = flow_bit w (15 - i) (omega arith) ∙ ap (bit_at w) place in
    ap₂ (λ (c b : ℕ). record { slot = slot; row = row; place = i; channel = c; on = b == 1 }) channel bit))
