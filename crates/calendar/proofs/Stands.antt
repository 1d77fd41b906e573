-- The calendar stands for one more row.
use Rattle.std.proofs.Common.{◌≡◌, ℕ, suc, ◌+◌, ◌-◌, ◌*◌, min, get_or, Bool, true, false, List, [], ◌∷◌, ◌++◌, length, map, reverse, take, drop, Option, Some, None, refl, sym, ap, ap₂, subst, ◌∙◌, arith}
use Rattle.std.specs.List.{range_with_len}
use Rattle.std.specs.Option.{option_map, option_map_or}
use Rattle.stream_model.specs.Calendar.{Told, is_valid, word_number, told_by_row, told_by_word}
use Rattle.lk_base.specs.Fields.{flow_field, reset_field}
use Rattle.stream_model.specs.declared.rows.FlowRow.{FlowRow}
use Rattle.calendar.specs.Changes.{words_back, told_back, told_by_bits, changes, state_in}
use Rattle.calendar.specs.Incoming.{Stands, HasStates}
use Rattle.calendar.specs.declared.change.Change.{Change}
use Rattle.calendar.specs.declared.incoming.CalendarIn.{CalendarIn}
use Rattle.calendar.proofs.Rows.{words_more, told_back_more, told_same, number_reset, number_next}

-- where the number of the next word goes on
abbrev pub next_of : List ℕ → Option ℕ → Option ℕ
next_of entries n = option_map (λ d. min (16 * (d + 1)) (length entries)) n

module _ (cal new : CalendarIn) (entries : List ℕ) (rows : List FlowRow) (row : FlowRow) (s : Stands cal entries rows) where
  -- a word that does not count
  pub stands_none : word_number (row.word ∷ words_back rows) ≡ None → new.entries ≡ cal.entries → new.next ≡ None → new.on ≡ cal.on → Stands new entries (rows ++ row ∷ [])
  stands_none none e n o = record {
    shown = ap (λ v. v.items) e ∙ s.shown;
    wide = ap (λ v. length v.items) o ∙ s.wide;
    next = n ∙ sym (ap (next_of entries) (ap word_number (words_more rows row) ∙ none));
    states = λ c h. ap (λ v. get_or v.items c false) o ∙ s.states c h ∙ ap (λ ts. state_in ts c) (sym (told_back_more entries rows row ∙ ap (λ (k : Option ℕ). reverse (option_map_or (told_by_word entries row.slot (length rows) row.word) k []) ++ told_back entries rows) none));
  }

  -- a word that counts
  pub stands_some : (d end : ℕ) → word_number (row.word ∷ words_back rows) ≡ Some d → end ≡ min (16 * (d + 1)) (length entries) → new.entries ≡ cal.entries → new.next ≡ Some end → length new.on.items ≡ 65536
      → HasStates new.on.items (reverse (told_by_word entries row.slot (length rows) row.word d) ++ told_back entries rows) → Stands new entries (rows ++ row ∷ [])
  stands_some d end some at e n wide has = record {
    shown = ap (λ v. v.items) e ∙ s.shown;
    wide = wide;
    next = n ∙ ap Some at ∙ sym (ap (next_of entries) (ap word_number (words_more rows row) ∙ some));
    states = subst (HasStates new.on.items) (sym (told_back_more entries rows row ∙ ap (λ (k : Option ℕ). reverse (option_map_or (told_by_word entries row.slot (length rows) row.word) k []) ++ told_back entries rows) some)) has;
  }

pub told_none : (entries : List ℕ) (n : ℕ) (earlier : List ℕ) (row : FlowRow) → word_number (row.word ∷ earlier) ≡ None → told_by_row entries n earlier row ≡ []
told_none entries n earlier row h = ap (λ (k : Option ℕ). option_map_or (told_by_word entries row.slot n row.word) k []) h

pub told_some : (entries : List ℕ) (n : ℕ) (earlier : List ℕ) (row : FlowRow) (d : ℕ) → word_number (row.word ∷ earlier) ≡ Some d → told_by_row entries n earlier row ≡ told_by_word entries row.slot n row.word d
told_some entries n earlier row d h = ap (λ (k : Option ℕ). option_map_or (told_by_word entries row.slot n row.word) k []) h

-- ---- the number of the word, by what the calendar keeps

-- the number that a word has, and where its entries begin
pub record Numbered (entries : List ℕ) (word : ℕ) (earlier : List ℕ) (first : ℕ) : Type 0 where
  pub d : ℕ
  pub is : word_number (word ∷ earlier) ≡ Some d
  pub at : first ≡ min (16 * d) (length entries)

pub by_reset : (entries : List ℕ) (word : ℕ) (earlier : List ℕ) → is_valid word ≡ true → reset_field word ≡ 1 → Numbered entries word earlier 0
by_reset entries word earlier v r = record { d = 0; is = number_reset word earlier v r; at = omega arith }

go : (entries : List ℕ) (word : ℕ) (earlier : List ℕ) (first : ℕ) (n : Option ℕ) → is_valid word ≡ true → reset_field word ≡ 0 → word_number earlier ≡ n → Some first ≡ next_of entries n → Numbered entries word earlier first
go entries word earlier first None v r e k = cc
go entries word earlier first (Some d) v r e k = record { d = suc d; is = number_next word earlier v r ∙ ap (option_map suc) e; at = let f : first ≡ min (16 * (d + 1)) (length entries) = cc in omega arith }

pub by_next : (entries : List ℕ) (word : ℕ) (earlier : List ℕ) (first : ℕ) → is_valid word ≡ true → reset_field word ≡ 0 → Some first ≡ next_of entries (word_number earlier) → Numbered entries word earlier first
by_next entries word earlier first v r k = go entries word earlier first (word_number earlier) v r refl k

no : (n : Option ℕ) (entries : List ℕ) → None ≡ next_of entries n → n ≡ None
no None entries h = refl
no (Some d) entries h = cc

pub by_none : (entries : List ℕ) (word : ℕ) (earlier : List ℕ) → is_valid word ≡ true → reset_field word ≡ 0 → None ≡ next_of entries (word_number earlier) → word_number (word ∷ earlier) ≡ None
by_none entries word earlier v r k = number_next word earlier v r ∙ ap (option_map suc) (no (word_number earlier) entries k)

-- ---- the word as it was told

entries_told : (entries : List ℕ) (rows : List FlowRow) (row : FlowRow) (first end flow : ℕ) (part : List ℕ) (num : Numbered entries row.word (words_back rows) first) → end ≡ min (length entries) (first + 16)
    → flow_field row.word ≡ flow → part ≡ take (end - first) (drop first entries)
    → map (told_by_bits row.slot (length rows) part flow) (range_with_len 0 (length part)) ≡ told_by_word entries row.slot (length rows) row.word num.d
entries_told entries rows row first end flow part num e f p =
    ap₂ (λ (xs : List ℕ) (b : ℕ). map (told_by_bits row.slot (length rows) xs b) (range_with_len 0 (length xs))) p (sym f)
    ∙ told_same entries row.slot (length rows) row.word num.d first end num.at e

pub counted : (cal new : CalendarIn) (entries : List ℕ) (rows : List FlowRow) (row : FlowRow) → Stands cal entries rows → (first end flow : ℕ) (part : List ℕ) → Numbered entries row.word (words_back rows) first → end ≡ min (length entries) (first + 16)
    → flow_field row.word ≡ flow → part ≡ take (end - first) (drop first entries) → new.entries ≡ cal.entries → new.next ≡ Some end → length new.on.items ≡ 65536
    → HasStates new.on.items (reverse (map (told_by_bits row.slot (length rows) part flow) (range_with_len 0 (length part))) ++ told_back entries rows) → Stands new entries (rows ++ row ∷ [])
counted cal new entries rows row s first end flow part num e f p same n wide has =
    let at : end ≡ min (16 * (num.d + 1)) (length entries) = omega (arith, num.at) in
    stands_some cal new entries rows row s num.d end num.is at same n wide
    (subst (λ ts. HasStates new.on.items (reverse ts ++ told_back entries rows)) (entries_told entries rows row first end flow part num e f p) has)

pub counted_changes : (entries : List ℕ) (rows : List FlowRow) (row : FlowRow) (first end flow : ℕ) (part : List ℕ) (told : List Told) (xs : List Change) → Numbered entries row.word (words_back rows) first → end ≡ min (length entries) (first + 16)
    → flow_field row.word ≡ flow → part ≡ take (end - first) (drop first entries)
    → xs ≡ changes told (map (told_by_bits row.slot (length rows) part flow) (range_with_len 0 (length part))) → xs ≡ changes told (told_by_row entries (length rows) (words_back rows) row)
counted_changes entries rows row first end flow part told xs num e f p h =
    h ∙ ap (changes told) (entries_told entries rows row first end flow part num e f p ∙ sym (told_some entries (length rows) (words_back rows) row num.d num.is))
