-- The state of a channel by the rows of one frame.
use Rattle.std.proofs.Common.{◌≡◌, ℕ, zero, suc, ◌+◌, ◌<◌, ◌≤◌, ◌==◌, nat_le, eq-eqb, eqb-true, Bool, true, false, ◌&&◌, List, [], ◌∷◌, ◌++◌, length, map, reverse, filter, if◌then◌else◌, get_or, Option, Some, None, All, refl, sym, ap, ◌∙◌, subst, append-nil, arith}
use Rattle.std.specs.List.{range_with_len}
use Rattle.std.specs.Option.{option_map_or}
use Rattle.std.proofs.lemmas.Bool.Decides.{nat_tests}
use Rattle.std.proofs.lemmas.List.{reverse-append, length-reverse}
use Rattle.std.proofs.lemmas.List.Elements.{All-nil, All-cons, All-append, All-head, All-tail, All-filter, filter-append, filter_passes}
use Rattle.stream_model.specs.Calendar.{Told, word_number, told_by_word, told_by_row, told_from, told_by, told_of, on_by_latest, is_on}
use Rattle.stream_model.specs.declared.rows.FlowRow.{FlowRow}
use Rattle.calendar.proofs.States.{all_reverse}
use Rattle.oob_flow.proofs.Tells.{Tells, told_append, behind_rows}

-- what is told of a channel up to a slot
abbrev pub counts : ℕ → ℕ → Told → Bool
counts channel t e = (e.channel == channel) && nat_le e.slot t

-- ---- the slots of what is told

told_word : (P : ℕ → Type 0) (entries : List ℕ) (slot r word d n : ℕ) → P slot → (f : ℕ → Told) → ((i : ℕ) → (f i).slot ≡ slot) → (ns : List ℕ) → All (λ (e : Told). P e.slot) (map f ns)
told_word P entries slot r word d n h f s [] = All-nil (λ (e : Told). P e.slot)
told_word P entries slot r word d n h f s (i ∷ ns) = All-cons (λ (e : Told). P e.slot) (f i) (map f ns) (subst P (sym (s i)) h) (told_word P entries slot r word d n h f s ns)

told_option : (P : ℕ → Type 0) (entries : List ℕ) (r : ℕ) (row : FlowRow) (number : Option ℕ) → P row.slot → All (λ (e : Told). P e.slot) (option_map_or (told_by_word entries row.slot r row.word) number [])
told_option P entries r row None h = All-nil (λ (e : Told). P e.slot)
told_option P entries r row (Some d) h = told_word P entries row.slot r row.word d 0 h _ (λ i. refl) (range_with_len 0 _)

pub told_slots : (P : ℕ → Type 0) (entries : List ℕ) (r : ℕ) (earlier : List ℕ) (rows : List FlowRow) → All (λ (row : FlowRow). P row.slot) rows → All (λ (e : Told). P e.slot) (told_from entries r earlier rows)
told_slots P entries r earlier [] h = All-nil (λ (e : Told). P e.slot)
told_slots P entries r earlier (row ∷ rows) h =
    All-append (λ (e : Told). P e.slot) (told_by_row entries r earlier row) (told_from entries (r + 1) (row.word ∷ earlier) rows)
    (told_option P entries r row (word_number (row.word ∷ earlier)) (All-head (λ (q : FlowRow). P q.slot) row rows h))
    (told_slots P entries (r + 1) (row.word ∷ earlier) rows (All-tail (λ (q : FlowRow). P q.slot) row rows h))

-- ---- what counts

none_counts : (channel t : ℕ) (told : List Told) → All (λ (e : Told). t < e.slot) told → filter (counts channel t) told ≡ []
none_counts channel t [] h = refl
none_counts channel t (e ∷ told) h =
    let late : t < e.slot = All-head (λ (d : Told). t < d.slot) e told h in
    let test : nat_le e.slot t ≡ false = grind (arith, nat_tests) in
    rw (test, none_counts channel t told (All-tail (λ (d : Told). t < d.slot) e told h)) (by (e.channel == channel))
  where
    by : (b : Bool) → (if b && false then e ∷ [] else []) ≡ []
    by true = refl
    by false = refl

some_count : (p : Told → Bool) (told : List Told) (k : ℕ) → k < length told → ((d : Told) → p (get_or told k d) ≡ true) → 1 ≤ length (filter p told)
some_count p [] k h e = absurd (omega arith)
some_count p (x ∷ told) zero h e = let here : p x ≡ true = e x in rw here (omega arith)
some_count p (x ∷ told) (suc k) h e = by (p x) (some_count p told k (omega arith) e)
  where
    by : (b : Bool) → 1 ≤ length (filter p told) → 1 ≤ length (if b then x ∷ filter p told else filter p told)
    by true l = omega arith
    by false l = l

latest_is : (s : Bool) (xs ys : List Told) → All (λ (e : Told). e.on ≡ s) xs → 1 ≤ length xs → on_by_latest (xs ++ ys) ≡ s
latest_is s [] ys h l = absurd (omega arith)
latest_is s (e ∷ xs) ys h l = All-head (λ (d : Told). d.on ≡ s) e xs h

channel_of : (channel t : ℕ) (e : Told) → counts channel t e ≡ true → e.channel ≡ channel
channel_of channel t e h = by (e.channel == channel) (nat_le e.slot t) h refl
  where
    by : (a b : Bool) → (a && b) ≡ true → (e.channel == channel) ≡ a → e.channel ≡ channel
    by true b k same = eqb-true e.channel channel same
    by false b k same = cc

-- rows of a frame that tell the state of each entry, with rows before and rows of later slots after
pub frame_counts : (entries : List ℕ) (st : ℕ → Bool) (before frame after : List FlowRow) (channel t : ℕ) → ((r : ℕ) (earlier : List ℕ) → Tells entries st 0 (length entries) (told_from entries r earlier frame))
    → All (λ (row : FlowRow). row.slot ≤ t) frame → All (λ (row : FlowRow). t < row.slot) after → (j : ℕ) → j < length entries → get_or entries j 0 ≡ channel
    → is_on entries (before ++ (frame ++ after)) channel t ≡ st channel
frame_counts entries st before frame after channel t tells early late j within is =
    let a : List Told = told_from entries 0 [] before in
    let r : ℕ = 0 + length before in
    let e : List ℕ = behind_rows before [] in
    let f : List Told = told_from entries (0 + length before) (behind_rows before []) frame in
    let b : List Told = told_from entries (0 + length before + length frame) (behind_rows frame (behind_rows before [])) after in
    let all : told_by entries (before ++ (frame ++ after)) ≡ a ++ (f ++ b) =
    told_append entries 0 [] before (frame ++ after) ∙ ap (λ (told : List Told). told_from entries 0 [] before ++ told) (told_append entries (0 + length before) (behind_rows before []) frame after) in
    let p : Told → Bool = counts channel t in
    let behind : filter (counts channel t) b ≡ [] = none_counts channel t b (told_slots (λ n. t < n) entries (0 + length before + length frame) (behind_rows frame (behind_rows before [])) after late) in
    let kept : filter (counts channel t) (a ++ (f ++ b)) ≡ filter (counts channel t) a ++ filter (counts channel t) f =
    filter-append (counts channel t) a (f ++ b) ∙ ap (λ (told : List Told). filter (counts channel t) a ++ told) (filter-append (counts channel t) f b ∙ ap (λ (told : List Told). filter (counts channel t) f ++ told) behind ∙ append-nil (filter (counts channel t) f)) in
    let order : told_of entries (before ++ (frame ++ after)) channel t ≡ reverse (filter (counts channel t) f) ++ reverse (filter (counts channel t) a) =
    ap (λ (told : List Told). reverse (filter (counts channel t) told)) all ∙ ap reverse kept ∙ reverse-append (filter (counts channel t) a) (filter (counts channel t) f) in
    let t1 : Tells entries st 0 (length entries) f = tells (0 + length before) (behind_rows before []) in
    let slots : All (λ (d : Told). d.slot ≤ t) f = told_slots (λ n. n ≤ t) entries (0 + length before) (behind_rows before []) frame early in
    let on : All (λ (d : Told). d.on ≡ st channel) (filter (counts channel t) f) =
    (λ k d l. All-filter (counts channel t) (λ (q : Told). q.on ≡ st q.channel) f t1.on k d l ∙ ap st (channel_of channel t (get_or (filter (counts channel t) f) k d) (filter_passes (counts channel t) f k d l))) in
    let c = t1.covers j (omega arith) within within in
    let some : 1 ≤ length (filter (counts channel t) f) = some_count (counts channel t) f c.0 c.1 (λ d. counted (get_or f c.0 d) (c.2 d ∙ is) (slots c.0 d c.1)) in
    ap on_by_latest order ∙ latest_is (st channel) (reverse (filter (counts channel t) f)) (reverse (filter (counts channel t) a)) (all_reverse (λ (d : Told). d.on ≡ st channel) (filter (counts channel t) f) on) (omega (arith, some, length-reverse (filter (counts channel t) f)))
  where
    counted : (d : Told) → d.channel ≡ channel → d.slot ≤ t → counts channel t d ≡ true
    counted d h l =
        let a : (d.channel == channel) ≡ true = eq-eqb d.channel channel h in
        let b : nat_le d.slot t ≡ true = grind (arith, nat_tests) in
        rw (a, b) refl
