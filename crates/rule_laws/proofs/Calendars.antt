-- Each control word of a stream stands in its place of the calendar.
use Rattle.std.proofs.Common.{ℕ, zero, suc, ◌≡◌, inl, inr, ◌+◌, ◌-◌, ◌*◌, ◌%◌, ◌<◌, ◌≤◌, Bool, true, false, not, ◌&&◌, ◌||◌, List, [], ◌∷◌, ◌++◌, length, reverse, filter, filter_map, position, Some, ◌==◌, nat_lt, nat_le, refl, sym, ap, subst, ◌∙◌, arith, eqb-true, eq-eqb, lt-ltb}
use Rattle.std.specs.Option.{option_map_or}
use Rattle.std.specs.List.{list_any, range_with_len, position_or_len}
use Rattle.std.specs.Int.{bit_at}
use Rattle.std.proofs.Math.Nat.{suc-mod, mod_self, zero-mod, mod-eq_of_lt, mod-le}
use Rattle.std.proofs.lemmas.Nat.{mod_below}
use Rattle.std.proofs.lemmas.Bool.{cases_lt, eqb-false, ne_eqb, leb-true, le-ltb, and_left, and_right, or_from}
use Rattle.lk_base.specs.Words.{block}
use Rattle.lk_base.specs.Fields.{is_control_word, reset_field}
use Rattle.lk_base.specs.Checksum.{differ}
use Rattle.lk_base.specs.declared.word.Word.{Word}
use Rattle.lk_base.specs.declared.word.RxWord.{RxWord}
use Rattle.stream_model.specs.BurstStream.{Source, controls_in, IsRightControl}
use Rattle.receive_model.proofs.Cuts.{split}
use Rattle.word_rules.specs.Places.{known, control_number}
use Rattle.word_rules.specs.Rules.{has_reset, accepted_before, calendar_words, is_as_due, entries_at, has_zero_past_last, breaks_calendar}
use Rattle.rule_laws.proofs.Places.{Blocks, Start, More, behind, right_of}
use Rattle.rule_laws.proofs.Behind.{known_of, controls_of}
use Rattle.rule_laws.proofs.Facts.{accepted_at, controls_more}

-- ---- places of a calendar of n words

next_place : (m n : ℕ) → 0 < n → (suc m % n ≡ 0 → ⊥) → suc m % n ≡ suc (m % n)
next_place m n some not_first =
    let below : m % n < n = mod_below m n some in
    elim (cases_lt (suc (m % n)) n) [
      | inl h ↦ suc-mod m n ∙ mod-eq_of_lt h
      | inr h ↦ (let last : suc (m % n) ≡ n = omega arith in absurd (not_first (suc-mod m n ∙ ap (λ k. k % n) last ∙ mod_self n)))
    ]

wraps : (m n : ℕ) → 0 < n → suc m % n ≡ 0 → suc (m % n) ≡ n
wraps m n some first =
    let below : m % n < n = mod_below m n some in
    elim (cases_lt (suc (m % n)) n) [
      | inl h ↦ (let e : suc m % n ≡ suc (m % n) = suc-mod m n ∙ mod-eq_of_lt h in absurd (omega arith))
      | inr h ↦ omega arith
    ]

at_zero : (k : ℕ) → 16 * k ≡ 0 → k ≡ 0
at_zero k h = omega arith

-- ---- the first that passes

here_first : (p : ℕ → Bool) (x : ℕ) (xs : List ℕ) → p x ≡ true → position_or_len p (x ∷ xs) ≡ 0
here_first p x xs h = rw h refl

later_first : (p : ℕ → Bool) (x : ℕ) (xs : List ℕ) → p x ≡ false → position_or_len p (x ∷ xs) ≡ 1 + position_or_len p xs
later_first p x xs h = rw h refl

position_is : (p : ℕ → Bool) (xs : List ℕ) (k : ℕ) → position_or_len p xs ≡ k → k < length xs → position p xs ≡ Some k
position_is p xs k e h = rw (e, lt-ltb k (length xs) h) refl

-- ---- the accepted words before a place

module _ (source : Source) (some : 1 ≤ length source.entries) where
  abbrev n : ℕ
  n = calendar_words (length source.entries)

  positive : 0 < n
  positive = omega arith

  reset_is : (p : List Word) (x : ℕ) → IsRightControl source p x → has_reset x ≡ true → controls_in p % n ≡ 0
  reset_is p x right h = at_zero (controls_in p % n) (right.reset.0 (eqb-true (reset_field x) 1 h))

  no_reset : (p : List Word) (x : ℕ) → IsRightControl source p x → has_reset x ≡ false → controls_in p % n ≡ 0 → ⊥
  no_reset p x right h e = eqb-false (reset_field x) 1 h (right.reset.1 (omega arith))

  record InCalendar (p : List Word) (cs : List ℕ) : Type 0 where
    count : length cs ≡ controls_in p
    last : (m : ℕ) → length cs ≡ suc m → position_or_len has_reset cs ≡ m % n

  accepted_more : (p : List Word) (e : List RxWord) (y : ℕ) (xs : List ℕ) → Blocks source p e y → accepted_before (behind xs y e) ≡ y ∷ accepted_before e
  accepted_more p e y xs before =
      ap (λ (ws : List RxWord). filter is_control_word (filter_map control_number ws)) (known_of xs y e)
      ∙ ap (filter is_control_word) (controls_of xs y (known e))
      ∙ rw (accepted_at source p e y before) refl

  calendar_more : (p : List Word) (y : ℕ) (cs : List ℕ) → IsRightControl source p y → InCalendar p cs → (m : ℕ) → length (y ∷ cs) ≡ suc m → position_or_len has_reset (y ∷ cs) ≡ m % n
  calendar_more p y cs right is m size =
      let count = is.count in
      let long : controls_in p ≡ m = omega arith in
      let place : controls_in p % n ≡ m % n = ap (λ k. k % n) long in
      split (has_reset y)
      (λ h. let z = reset_is p y right h in here_first has_reset y cs h ∙ sym z ∙ place)
      (λ h. let none = no_reset p y right h in
      by cs m (omega arith) (is.last) (λ e. none (place ∙ e)) (later_first has_reset y cs h))
    where
      by : (cs : List ℕ) (m : ℕ) → length cs ≡ m → ((k : ℕ) → length cs ≡ suc k → position_or_len has_reset cs ≡ k % n) → (m % n ≡ 0 → ⊥) → position_or_len has_reset (y ∷ cs) ≡ 1 + position_or_len has_reset cs → position_or_len has_reset (y ∷ cs) ≡ m % n
      by cs zero size last none first = absurd (none (zero-mod n))
      by cs (suc k) size last none first =
          let e : position_or_len has_reset cs ≡ k % n = last k size in
          let f : suc k % n ≡ suc (k % n) = next_place k n positive none in
          omega arith

  in_calendar : (p : List Word) (e : List RxWord) (x : ℕ) → Blocks source p e x → InCalendar p (accepted_before e)
  in_calendar _ _ _ (Start x right) = record { count = refl; last = λ m h. absurd (omega arith) }
  in_calendar _ _ _ (More p e y xs x before right closed) =
      let is = in_calendar p e y before in
      subst (λ (cs : List ℕ). InCalendar (p ++ block y (reverse xs)) cs) (sym (accepted_more p e y xs before))
      (record { count = ap suc is.count ∙ sym (controls_more p y (reverse xs)); last = calendar_more p y (accepted_before e) (right_of source p e y before) is })

  -- ---- the word at the place

  abbrev IsDueAt : List ℕ → ℕ → ℕ → Type 0
  IsDueAt cs x j = (is_as_due (length source.entries) cs x ≡ true) × (entries_at cs x ≡ Some (j % n))

  same_differ : (a b : Bool) → a ≡ b → not (differ a b) ≡ true
  same_differ a b e = rw (← e) (by a)
    where
      by : (b : Bool) → not (differ b b) ≡ true
      by true = refl
      by false = refl

  due_first : (p : List Word) (x : ℕ) → IsRightControl source p x → controls_in p ≡ 0 → IsDueAt [] x (controls_in p)
  due_first p x right none =
      let place : controls_in p % n ≡ 0 = ap (λ k. k % n) none ∙ zero-mod n in
      let reset : has_reset x ≡ true = eq-eqb (reset_field x) 1 (right.reset.1 (omega arith)) in
      rw (reset, place) (refl, refl)

  due_later : (p : List Word) (x : ℕ) (cs : List ℕ) (m : ℕ) → IsRightControl source p x → controls_in p ≡ suc m → position has_reset cs ≡ Some (m % n) → IsDueAt cs x (controls_in p)
  due_later p x cs m right more at = split (has_reset x)
      (λ h.
      let first : suc m % n ≡ 0 = ap (λ k. k % n) (sym more) ∙ reset_is p x right h in
      let last : (m % n + 1 == n) ≡ true = eq-eqb (m % n + 1) n (let w = wraps m n positive first in omega arith) in
      let place : controls_in p % n ≡ 0 = reset_is p x right h in
      rw (at, h, last, place) (refl, refl))
      (λ h.
      let other : suc m % n ≡ 0 → ⊥ = λ e. no_reset p x right h (ap (λ k. k % n) more ∙ e) in
      let next : suc m % n ≡ suc (m % n) = next_place m n positive other in
      let below : suc m % n < n = mod_below (suc m) n positive in
      let not_last : (m % n + 1 == n) ≡ false = ne_eqb (m % n + 1) n (λ e. omega arith) in
      let place : m % n + 1 ≡ controls_in p % n = (let f : controls_in p % n ≡ suc m % n = ap (λ k. k % n) more in omega arith) in
      rw (at, h, not_last) (refl, ap Some place))

  due : (p : List Word) (x : ℕ) (cs : List ℕ) → IsRightControl source p x → InCalendar p cs → IsDueAt cs x (controls_in p)
  due p x [] right is = due_first p x right (sym is.count)
  due p x (c ∷ cs) right is =
      let first : position_or_len has_reset (c ∷ cs) ≡ length cs % n = is.last (length cs) refl in
      let low = mod-le (length cs) n in
      due_later p x (c ∷ cs) (length cs) right (sym is.count) (position_is has_reset (c ∷ cs) (length cs % n) first (omega arith))

  none_passes : (f : ℕ → Bool) (k a : ℕ) → ((i : ℕ) → i < a + k → f i ≡ false) → list_any f (range_with_len a k) ≡ false
  none_passes f zero a h = refl
  none_passes f (suc k) a h = or_from (f a) (list_any f (range_with_len (a + 1) k)) (h a (omega arith)) (none_passes f k (a + 1) (λ i below. h i (omega arith)))

  past_last : (p : List Word) (x : ℕ) → IsRightControl source p x → has_zero_past_last (length source.entries) x (controls_in p % n) ≡ false
  past_last p x right = none_passes (λ i. nat_le (length source.entries) (16 * (controls_in p % n) + i) && not (bit_at x (55 - i) == 1)) 16 0 (λ i below.
      let at : ℕ = 16 * (controls_in p % n) + i in
      split (nat_le (length source.entries) at)
      (λ h.
      let past : nat_lt at (length source.entries) ≡ false = le-ltb at (length source.entries) (leb-true (length source.entries) at h) in
      let one : (bit_at x (55 - i) == 1) ≡ true = right.entries i (omega arith) ∙ rw past refl in
      and_right (nat_le (length source.entries) at) (not (bit_at x (55 - i) == 1)) (rw one refl))
      (λ h. and_left (nat_le (length source.entries) at) (not (bit_at x (55 - i) == 1)) h))

  pub keeps_calendar : (p : List Word) (e : List RxWord) (x : ℕ) → Blocks source p e x → breaks_calendar (length source.entries) e x ≡ false
  keeps_calendar p e x before =
      let right = right_of source p e x before in
      let is = due p x (accepted_before e) right (in_calendar p e x before) in
      and_right (is_control_word x) (not (is_as_due (length source.entries) (accepted_before e) x) || option_map_or (has_zero_past_last (length source.entries) x) (entries_at (accepted_before e) x) false)
      (rw (is.0, is.1) (past_last p x right))
