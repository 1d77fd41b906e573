-- The place in the calendar.
use Rattle.std.proofs.Common.{ℕ, zero, suc, ◌+◌, ◌-◌, ◌^◌, ◌≡◌, ◌≤◌, ◌<◌, refl, sym, ap, ◌∙◌, subst, Bool, true, false, cond, ◌||◌, List, [], ◌∷◌, length, filter, filter_map, position, Option, Some, None, IfSome, nat_lt, arith}
use Rattle.std.proofs.lemmas.Bool.{ltb-true}
use Rattle.std.specs.List.{list_any, range_with_len, position_or_len}
use Rattle.lk_base.specs.declared.word.RxWord.{RxWord}
use Rattle.lk_base.specs.declared.word.RxWord.TheVariants.{Data, Control, Bad}
use Rattle.lk_base.specs.Fields.{is_control_word}
use Rattle.word_rules.specs.Places.{known, control_number}
use Rattle.word_rules.specs.Rules.{has_reset, accepted_before, breaks_calendar}
use Rattle.word_rules.specs.declared.due.Due.{Due}
use Rattle.word_rules.specs.Due.{IsDue, calendar_by}
use Rattle.word_rules.proofs.Befores.{known_le}

or_assoc : (a b c : Bool) → (a || (b || c)) ≡ ((a || b) || c)
or_assoc true b c = refl
or_assoc false b c = refl

or_none : (b : Bool) → (b || false) ≡ b
or_none true = refl
or_none false = refl

any_more : (p : ℕ → Bool) (a n : ℕ) → list_any p (range_with_len a (suc n)) ≡ (list_any p (range_with_len a n) || p (a + n))
any_more p a zero = or_none (p a) ∙ (let e : a ≡ a + 0 = omega arith in ap p e)
any_more p a (suc n) = ap (λ (t : Bool). p a || t) (any_more p (a + 1) n) ∙ or_assoc (p a) (list_any p (range_with_len (a + 1) n)) (p (a + 1 + n))
    ∙ (let e : a + 1 + n ≡ a + suc n = omega arith in ap (λ (k : ℕ). (p a || list_any p (range_with_len (a + 1) n)) || p k) e)

-- the test of one place more
pub any_next : (p : ℕ → Bool) (n : ℕ) → list_any p (range_with_len 0 (n + 1)) ≡ (list_any p (range_with_len 0 n) || p n)
any_next p n = (let e : n + 1 ≡ suc n = omega arith in ap (λ (k : ℕ). list_any p (range_with_len 0 k)) e) ∙ any_more p 0 n ∙ (let e : 0 + n ≡ n = omega arith in ap (λ (k : ℕ). list_any p (range_with_len 0 n) || p k) e)

accepted_le : (xs : List RxWord) → length (filter is_control_word (filter_map control_number xs)) ≤ length xs
accepted_le [] = omega arith
accepted_le (Data x ∷ xs) = (let h = accepted_le xs in omega arith)
accepted_le (Control x ∷ xs) = go (is_control_word x) (accepted_le xs) where
  go : (b : Bool) → length (filter is_control_word (filter_map control_number xs)) ≤ length xs → length (cond b (x ∷ filter is_control_word (filter_map control_number xs)) (filter is_control_word (filter_map control_number xs))) ≤ suc (length xs)
  go true h = omega arith
  go false h = omega arith
accepted_le (Bad ∷ xs) = (let h = accepted_le xs in omega arith)

small : (p : ℕ → Bool) (xs : List ℕ) (m : ℕ) → length xs < m → IfSome (position p xs) (λ n. n < m)
small p xs m h = go (nat_lt (position_or_len p xs) (length xs)) refl where
  go : (t : Bool) → nat_lt (position_or_len p xs) (length xs) ≡ t → IfSome (cond t (Some (position_or_len p xs)) None) (λ n. n < m)
  go true e = (let k : position_or_len p xs < length xs = ltb-true (position_or_len p xs) (length xs) e in omega arith)
  go false e = tt

module _ (d : Due) (e : List RxWord) (i : IsDue d (accepted_before e)) where
  pub count_below : length e < 2 ^ 57 → d.count < 2 ^ 60
  count_below h = (let k = known_le e in let l = accepted_le (known e) in let m = i.count in omega arith)

  pub reset_below : length e < 2 ^ 57 → IfSome d.after_reset (λ n. n < 2 ^ 57)
  reset_below h = (let k = known_le e in let l = accepted_le (known e) in
      subst (λ (o : Option ℕ). IfSome o (λ n. n < 2 ^ 57)) (sym i.after_reset) (small has_reset (accepted_before e) (2 ^ 57) (omega arith)))

  pub calendar_is : (entries x : ℕ) → calendar_by entries d x ≡ breaks_calendar entries e x
  calendar_is entries x = rw (i.after_reset, i.count) refl
