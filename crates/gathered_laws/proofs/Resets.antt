-- How far the last Reset Calendar is back, and how the calendar stands at a place without the words before the first ones.
use Rattle.std.proofs.Common.{ℕ, suc, ◌≡◌, ◌+◌, ◌<◌, ◌≤◌, Bool, true, false, cond, not, ◌||◌, List, [], ◌∷◌, ◌++◌, length, position, Some, None, Option, ◌==◌, nat_lt, refl, sym, ap, ◌∙◌, arith, lt-ltb, length-append}
use Rattle.std.specs.List.{position_or_len}
use Rattle.std.specs.Option.{option_map, option_map_or}
use Rattle.std.proofs.lemmas.Bool.{eqb-false, ltb-true, ltb-false, le-ltb, or_left, or_right}
use Rattle.lk_base.specs.Checksum.{differ}
use Rattle.receive_model.proofs.Cuts.{split}
use Rattle.word_rules.specs.Rules.{has_reset, words_since_reset, calendar_words, is_as_due, entries_at, has_zero_past_last}

abbrev one_more : ℕ → ℕ
one_more k = k + 1

at_reset : (x : ℕ) (xs : List ℕ) → has_reset x ≡ true → words_since_reset (x ∷ xs) ≡ Some 1
at_reset x xs h = let some : nat_lt 0 (suc (length xs)) ≡ true = lt-ltb 0 (suc (length xs)) (omega arith) in rw (h, some) refl

past_other : (p : ℕ → Bool) (x : ℕ) (xs : List ℕ) → p x ≡ false → position p (x ∷ xs) ≡ option_map one_more (position p xs)
past_other p x xs h = rw h (by (position_or_len p xs))
  where
    by : (k : ℕ) → cond (nat_lt (1 + k) (suc (length xs))) (Some (1 + k)) None ≡ option_map one_more (cond (nat_lt k (length xs)) (Some k) None)
    by k = split (nat_lt k (length xs))
        (λ t.
        let less = ltb-true k (length xs) t in
        let more : nat_lt (1 + k) (suc (length xs)) ≡ true = lt-ltb (1 + k) (suc (length xs)) (omega arith) in
        let same : 1 + k ≡ k + 1 = omega arith in
        rw (t, more, same) refl)
        (λ t.
        let past = ltb-false k (length xs) t in
        let more : nat_lt (1 + k) (suc (length xs)) ≡ false = le-ltb (1 + k) (suc (length xs)) (omega arith) in
        rw (t, more) refl)

at_other : (x : ℕ) (xs : List ℕ) → has_reset x ≡ false → words_since_reset (x ∷ xs) ≡ option_map one_more (words_since_reset xs)
at_other x xs h = ap (option_map one_more) (past_other has_reset x xs h)

-- ---- without the first words ys, which are the last of the list

pub data Cut (xs ys : List ℕ) : Type 0 where
  -- the last reset is among the others
  Seen : (d : ℕ) → words_since_reset xs ≡ Some d → words_since_reset (xs ++ ys) ≡ Some d → Cut xs ys
  -- it is among them
  Early : (d : ℕ) → words_since_reset xs ≡ None → words_since_reset (xs ++ ys) ≡ Some d → length xs < d → Cut xs ys
  -- there is none
  Nowhere : words_since_reset xs ≡ None → words_since_reset (xs ++ ys) ≡ None → Cut xs ys

some_back : (o : Option ℕ) (d : ℕ) → option_map one_more o ≡ Some d → 0 < d
some_back None d h = cc
some_back (Some k) d h = let e : k + 1 ≡ d = cc in omega arith

cut_none : (ys : List ℕ) (o : Option ℕ) → words_since_reset ys ≡ o → Cut [] ys
cut_none ys None h = Nowhere refl h
cut_none ys (Some d) h = Early d refl h (some_back (position has_reset ys) d h)

pub cut : (xs ys : List ℕ) → Cut xs ys
cut [] ys = cut_none ys (words_since_reset ys) refl
cut (x ∷ xs) ys = split (has_reset x)
    (λ t. Seen 1 (at_reset x xs t) (at_reset x (xs ++ ys) t))
    (λ t. elim (cut xs ys) [
      | Seen d a b ↦ Seen (d + 1) (at_other x xs t ∙ ap (option_map one_more) a) (at_other x (xs ++ ys) t ∙ ap (option_map one_more) b)
      | Early d a b far ↦ Early (d + 1) (at_other x xs t ∙ ap (option_map one_more) a) (at_other x (xs ++ ys) t ∙ ap (option_map one_more) b) (omega arith)
      | Nowhere a b ↦ Nowhere (at_other x xs t ∙ ap (option_map one_more) a) (at_other x (xs ++ ys) t ∙ ap (option_map one_more) b)
    ])

-- ---- the last reset is no further back than the calendar has words

abbrev pub Within : ℕ → List ℕ → Type 0
Within n xs = (d : ℕ) → words_since_reset xs ≡ Some d → d ≤ calendar_words n

module _ (n : ℕ) (some : 1 ≤ n) where
  not_differ : (a b : Bool) → not (differ a b) ≡ true → a ≡ b
  not_differ true true h = refl
  not_differ true false h = cc
  not_differ false true h = cc
  not_differ false false h = refl

  within_more : (x : ℕ) (xs : List ℕ) (o : Option ℕ) → words_since_reset xs ≡ o → has_reset x ≡ false → is_as_due n xs x ≡ true → Within n xs → (d : ℕ) → option_map one_more o ≡ Some d → d ≤ calendar_words n
  within_more x xs None at none due within d h = cc
  within_more x xs (Some k) at none due within d h =
      let low = within k at in
      let said : not (differ (has_reset x) (k == calendar_words n)) ≡ true = ap (λ (o : Option ℕ). option_map_or (λ d. not (differ (has_reset x) (d == calendar_words n))) o (has_reset x || nat_lt (length xs) (calendar_words n))) (sym at) ∙ due in
      let e : (k == calendar_words n) ≡ false = sym (not_differ (has_reset x) (k == calendar_words n) said) ∙ none in
      let other = eqb-false k (calendar_words n) e in
      let same : k + 1 ≡ d = cc in
      by k d low other same
    where
      by : (k d : ℕ) → k ≤ calendar_words n → (k ≡ calendar_words n → ⊥) → k + 1 ≡ d → d ≤ calendar_words n
      by k d low other same = omega arith

  pub stays_within : (x : ℕ) (xs : List ℕ) → is_as_due n xs x ≡ true → Within n xs → Within n (x ∷ xs)
  stays_within x xs due within d h = split (has_reset x)
      (λ t. let e : Some 1 ≡ Some d = sym (at_reset x xs t) ∙ h in let f : 1 ≡ d = cc in omega arith)
      (λ t. within_more x xs (words_since_reset xs) refl t due within d (sym (at_other x xs t) ∙ h))

  -- ---- the word x is as due without the first words

  pub record DueAt (xs ys : List ℕ) (x : ℕ) : Type 0 where
    pub due : is_as_due n xs x ≡ true
    pub past : option_map_or (has_zero_past_last n x) (entries_at xs x) false ≡ false

  abbrev due_by : Option ℕ → ℕ → ℕ → Bool
  due_by o count x = option_map_or (λ d. not (differ (has_reset x) (d == calendar_words n))) o (has_reset x || nat_lt count (calendar_words n))

  abbrev past_by : Option ℕ → ℕ → Bool
  past_by o x = option_map_or (has_zero_past_last n x) (cond (has_reset x) (Some 0) o) false

  early_due : (d count x : ℕ) → d ≤ calendar_words n → count < d → due_by (Some d) 0 x ≡ true → due_by None count x ≡ true
  early_due d count x low far h = split (has_reset x)
      (λ t. or_left (has_reset x) (nat_lt count (calendar_words n)) t)
      (λ t.
      let e : (d == calendar_words n) ≡ false = sym (not_differ (has_reset x) (d == calendar_words n) h) ∙ t in
      or_right (has_reset x) (nat_lt count (calendar_words n)) (lt-ltb count (calendar_words n) (omega arith)))

  early_past : (d x : ℕ) → past_by (Some d) x ≡ false → past_by None x ≡ false
  early_past d x h = split (has_reset x)
      (λ t. ap (λ (b : Bool). option_map_or (has_zero_past_last n x) (cond b (Some 0) None) false) t ∙ ap (λ (b : Bool). option_map_or (has_zero_past_last n x) (cond b (Some 0) (Some d)) false) (sym t) ∙ h)
      (λ t. rw t refl)

  nowhere_due : (xs ys : List ℕ) (x : ℕ) → due_by None (length (xs ++ ys)) x ≡ true → due_by None (length xs) x ≡ true
  nowhere_due xs ys x h = split (has_reset x)
      (λ t. or_left (has_reset x) (nat_lt (length xs) (calendar_words n)) t)
      (λ t.
      let low : nat_lt (length (xs ++ ys)) (calendar_words n) ≡ true = ap (λ (b : Bool). b || nat_lt (length (xs ++ ys)) (calendar_words n)) (sym t) ∙ h in
      let less = ltb-true (length (xs ++ ys)) (calendar_words n) low in
      let long = length-append xs ys in
      or_right (has_reset x) (nat_lt (length xs) (calendar_words n)) (lt-ltb (length xs) (calendar_words n) (omega arith)))

  pub due_without : (xs ys : List ℕ) (x : ℕ) → Within n (xs ++ ys) → is_as_due n (xs ++ ys) x ≡ true → option_map_or (has_zero_past_last n x) (entries_at (xs ++ ys) x) false ≡ false → DueAt xs ys x
  due_without xs ys x within due past = elim (cut xs ys) [
    | Seen d a b ↦ record {
      due = ap (λ (o : Option ℕ). due_by o (length xs) x) a ∙ ap (λ (o : Option ℕ). due_by o (length (xs ++ ys)) x) (sym b) ∙ due;
      past = ap (λ (o : Option ℕ). past_by o x) (a ∙ sym b) ∙ past;
    }
    | Early d a b far ↦ record {
      due = ap (λ (o : Option ℕ). due_by o (length xs) x) a ∙ early_due d (length xs) x (within d b) far (ap (λ (o : Option ℕ). due_by o (length (xs ++ ys)) x) (sym b) ∙ due);
      past = ap (λ (o : Option ℕ). past_by o x) a ∙ early_past d x (ap (λ (o : Option ℕ). past_by o x) (sym b) ∙ past);
    }
    | Nowhere a b ↦ record {
      due = ap (λ (o : Option ℕ). due_by o (length xs) x) a ∙ nowhere_due xs ys x (ap (λ (o : Option ℕ). due_by o (length (xs ++ ys)) x) (sym b) ∙ due);
      past = ap (λ (o : Option ℕ). past_by o x) (a ∙ sym b) ∙ past;
    }
  ]
