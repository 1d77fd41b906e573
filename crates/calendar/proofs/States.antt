-- What was told of a channel, if all rows count.
use Rattle.std.proofs.Common.{◌≡◌, ℕ, suc, ◌≤◌, Bool, true, false, ◌&&◌, List, [], ◌∷◌, ◌++◌, length, map, reverse, take, drop, filter, find, ◌+◌, if◌then◌else◌, ◌==◌, nat_le, Option, Some, None, All, refl, sym, ap, ◌∙◌, subst, arith}
use Rattle.std.specs.List.{range_with_len}
use Rattle.std.specs.Option.{option_map_or}
use Rattle.std.proofs.lemmas.List.{take-append-le, take_all, reverse-append}
use Rattle.std.proofs.lemmas.List.Elements.{All-cons, All-append, filter-append, All-nil}
use Rattle.std.proofs.lemmas.Bool.Decides.{nat_tests}
use Rattle.stream_model.specs.Calendar.{Told, told_by, told_from, told_by_row, told_by_word, told_of, word_number}
use Rattle.stream_model.specs.declared.rows.FlowRow.{FlowRow}
use Rattle.stream_model.specs.Calendar.{is_locally_on}
use Rattle.stream_model.specs.declared.rows.LocalRow.{LocalRow}
use Rattle.calendar.specs.Changes.{told_back}
use Rattle.calendar.specs.Outgoing.{last_local}

pub refill : (n : ℕ) (xs ws : List Bool) → n ≡ length xs → length ws ≡ length xs → take n (ws ++ drop (length ws) xs) ≡ ws
refill n xs ws e f = take-append-le n ws (drop (length ws) xs) (omega arith) ∙ take_all n ws (omega arith)

pub filter_reverse : {X : Type 0} (p : X → Bool) (xs : List X) → filter p (reverse xs) ≡ reverse (filter p xs)
filter_reverse p [] = refl
filter_reverse p (x ∷ xs) =
    ap (filter p) (reverse-append (x ∷ []) xs) ∙ filter-append p (reverse xs) (x ∷ []) ∙ ap (λ ys. ys ++ filter p (x ∷ [])) (filter_reverse p xs)
    ∙ sym (ap reverse (filter-append p (x ∷ []) xs) ∙ reverse-append (filter p (x ∷ [])) (filter p xs) ∙ ap (λ ys. reverse (filter p xs) ++ ys) (one p x))
  where
    one : {X : Type 0} (p : X → Bool) (x : X) → reverse (filter p (x ∷ [])) ≡ filter p (x ∷ [])
    one p x = by (p x)
      where
        by : (b : Bool) → reverse (if b then x ∷ [] else []) ≡ (if b then x ∷ [] else [])
        by true = refl
        by false = refl

pub first : {X : Type 0} (P : X → Type 0) (x : X) (xs : List X) → All P (x ∷ xs) → P x
first P x xs h = h 0 x (omega arith)

pub rest : {X : Type 0} (P : X → Type 0) (x : X) (xs : List X) → All P (x ∷ xs) → All P xs
rest P x xs h k d l = h (suc k) d (omega arith)

pub all_reverse : {X : Type 0} (P : X → Type 0) (xs : List X) → All P xs → All P (reverse xs)
all_reverse P [] h = h
all_reverse P (x ∷ xs) h = subst (All P) (sym (reverse-append (x ∷ []) xs)) (All-append P (reverse xs) (x ∷ []) (all_reverse P xs (rest P x xs h)) (All-cons P x [] (first P x xs h) (All-nil P)))

pub all_range : {X : Type 0} (P : X → Type 0) (f : ℕ → X) (ns : List ℕ) → ((n : ℕ) → P (f n)) → All P (map f ns)
all_range P f [] h = All-nil P
all_range P f (n ∷ ns) h = All-cons P (f n) (map f ns) (h n) (all_range P f ns h)

told_row : (entries : List ℕ) (t r : ℕ) (row : FlowRow) (k : Option ℕ) → row.slot ≤ t → All (λ (e : Told). e.slot ≤ t) (option_map_or (told_by_word entries row.slot r row.word) k [])
told_row entries t r row None h = All-nil (λ (e : Told). e.slot ≤ t)
told_row entries t r row (Some d) h = all_range (λ (e : Told). e.slot ≤ t) _ (range_with_len 0 _) (λ n. h)

all_told : (entries : List ℕ) (t r : ℕ) (earlier : List ℕ) (rows : List FlowRow) → All (λ (row : FlowRow). row.slot ≤ t) rows → All (λ (e : Told). e.slot ≤ t) (told_from entries r earlier rows)
all_told entries t r earlier [] h = All-nil (λ (e : Told). e.slot ≤ t)
all_told entries t r earlier (row ∷ rows) h = All-append (λ (e : Told). e.slot ≤ t) (told_by_row entries r earlier row) (told_from entries (r + 1) (row.word ∷ earlier) rows) (told_row entries t r row (word_number (row.word ∷ earlier)) (first (λ (q : FlowRow). q.slot ≤ t) row rows h)) (all_told entries t (r + 1) (row.word ∷ earlier) rows (rest (λ (q : FlowRow). q.slot ≤ t) row rows h))

same_filter : (channel t : ℕ) (es : List Told) → All (λ (e : Told). e.slot ≤ t) es → filter (λ (e : Told). (e.channel == channel) && nat_le e.slot t) es ≡ filter (λ (e : Told). e.channel == channel) es
same_filter channel t [] h = refl
same_filter channel t (e ∷ es) h =
    let low : e.slot ≤ t = first (λ (d : Told). d.slot ≤ t) e es h in
    let test : nat_le e.slot t ≡ true = grind (arith, nat_tests) in
    rw (test, same_filter channel t es (rest (λ (d : Told). d.slot ≤ t) e es h)) (by (e.channel == channel))
  where
    by : (b : Bool) → (if b && true then e ∷ filter (λ (d : Told). d.channel == channel) es else filter (λ (d : Told). d.channel == channel) es) ≡ (if b then e ∷ filter (λ (d : Told). d.channel == channel) es else filter (λ (d : Told). d.channel == channel) es)
    by true = refl
    by false = refl

-- if all rows count at slot t, what was told of a channel is a part of all that was told
pub told_of_all : (entries : List ℕ) (rows : List FlowRow) (channel t : ℕ) → All (λ (row : FlowRow). row.slot ≤ t) rows → told_of entries rows channel t ≡ filter (λ (e : Told). e.channel == channel) (told_back entries rows)
told_of_all entries rows channel t h = ap reverse (same_filter channel t (told_by entries rows) (all_told entries t 0 [] rows h)) ∙ sym (filter_reverse (λ (e : Told). e.channel == channel) (told_by entries rows))

-- ---- a sender's own rows

find_same : (channel t : ℕ) (rows : List LocalRow) → All (λ (row : LocalRow). row.slot ≤ t) rows
    → find (λ (row : LocalRow). (row.channel == channel) && nat_le row.slot t) rows ≡ find (λ (row : LocalRow). row.channel == channel) rows
find_same channel t [] h = refl
find_same channel t (row ∷ rows) h =
    let low : row.slot ≤ t = first (λ (d : LocalRow). d.slot ≤ t) row rows h in
    let test : nat_le row.slot t ≡ true = grind (arith, nat_tests) in
    rw (test, find_same channel t rows (rest (λ (d : LocalRow). d.slot ≤ t) row rows h)) (by (row.channel == channel))
  where
    by : (b : Bool) → (if b && true then Some row else find (λ (d : LocalRow). d.channel == channel) rows) ≡ (if b then Some row else find (λ (d : LocalRow). d.channel == channel) rows)
    by true = refl
    by false = refl

-- if all rows count at slot t, a channel's own state is that of its last row
pub local_all : (local : List LocalRow) (channel t : ℕ) → All (λ (row : LocalRow). row.slot ≤ t) local → is_locally_on local channel t ≡ last_local local channel
local_all local channel t h = ap (λ o. option_map_or (λ (row : LocalRow). row.on) o true) (find_same channel t (reverse local) (all_reverse (λ (row : LocalRow). row.slot ≤ t) local h))
