-- The rules by what is kept are those by the words before the place.
use Rattle.std.proofs.Common.{ℕ, suc, ◌==◌, ◌≡◌, refl, sym, ap, ◌∙◌, Bool, true, false, cond, not, ◌&&◌, List, [], ◌∷◌, length, Option, Some, None, is_some, is_none, get_or, arith, ap₂, nat_lt, ◌%◌, ◌-◌, ◌*◌, ◌/◌, ◌^◌, ◌++◌}
use Rattle.std.specs.Option.{option_map_or, option_map}
use Rattle.lk_base.specs.Fields.{is_control_word, has_end, has_sop, channel_number, crc_field}
use Rattle.control_words.specs.ControlWord.{end_of}
use Rattle.word_rules.specs.Bursts.{ends, burst_bytes}
use Rattle.word_rules.specs.Rules.{closes_data, covered, breaks_control, breaks_empty, breaks_data, breaks_max, breaks_crc, breaks_short, breaks_end, breaks_fill, breaks_part, breaks_min, has_wrong_fill}
use Rattle.word_rules.specs.ByFields.{closes_by, channel_by, data_by, max_by, crc_by, short_by, end_by, fill_by, part_by, min_by, wrong_fill_by, data_rows_by, word_rows_by, burst_rows_by}
use Rattle.std.specs.List.{list_any}
use Rattle.lk_base.specs.Words.{is_bad}
use Rattle.lk_base.specs.Checksum.{bits_of, bits_of_words, complement, register_after}
use Rattle.lk_crc.proofs.Registers.{register_after-append}
use Rattle.word_rules.specs.Places.{since_control, channel_before, is_burst_word, data_before, burst_before, follows_bad}
use Rattle.word_rules.specs.Faults.{row, data_rows, word_rows, burst_rows}
use Rattle.word_rules.specs.declared.fault.Fault.{Fault}
use Rattle.word_rules.specs.declared.rule.WordRule.{WordRule}
use Rattle.word_rules.specs.declared.rule.WordRule.TheVariants as rules
use Rattle.std.proofs.lemmas.Bool.Decides.{nat_tests}
use Rattle.lk_base.specs.declared.word.RxWord.{RxWord}
use Rattle.lk_base.specs.declared.word.RxWord.TheVariants.{Data, Control, Bad}
use Rattle.receive_model.specs.Stretches.{has_some}
use Rattle.control_words.specs.declared.fields.Eop.{Eop}
use Rattle.control_words.specs.declared.fields.Eop.TheVariants as eops
use Rattle.word_rules.specs.declared.before.Before.{Before}
use Rattle.word_rules.specs.declared.limits.WordLimits.{WordLimits}
use Rattle.word_rules.specs.Stands.{IsBefore}
use Rattle.word_rules.proofs.Befores.{bad_since}

not_zero : (n : ℕ) → (suc n == 0) ≡ false
not_zero n = grind (arith, nat_tests)

-- no Data words, by their count
pub some_by : (xs : List ℕ) → not (length xs == 0) ≡ has_some xs
some_by [] = refl
some_by (x ∷ xs) = ap not (not_zero (length xs))

data_cases : (e : List RxWord) → ((length (data_before e) == 0) && (is_none (burst_before e) && not (follows_bad e))) ≡ breaks_data e
data_cases [] = refl
data_cases (Data x ∷ e) = ap (λ b. b && (is_none (burst_before (Data x ∷ e)) && not (follows_bad (Data x ∷ e)))) (not_zero (length (data_before e)))
data_cases (Control x ∷ e) = go (is_burst_word x) where
  go : (b : Bool) → (true && (is_none (cond b (Some x) None) && true)) ≡ not b
  go true = refl
  go false = refl
data_cases (Bad ∷ e) = refl

-- whether the last Data word is filled, by the word
wrong_fill_cases : (end : Eop) (xs : List ℕ) → (not (length xs == 0) && wrong_fill_by end (get_or xs 0 0)) ≡ (has_some xs && has_wrong_fill end xs)
wrong_fill_cases eops.Going [] = refl
wrong_fill_cases eops.Going (x ∷ xs) = ap (λ b. b && false) (ap not (not_zero (length xs)))
wrong_fill_cases eops.Error [] = refl
wrong_fill_cases eops.Error (x ∷ xs) = ap (λ b. b && false) (ap not (not_zero (length xs)))
wrong_fill_cases (eops.End v) [] = refl
wrong_fill_cases (eops.End v) (x ∷ xs) = ap (λ b. b && wrong_fill_by (eops.End v) x) (ap not (not_zero (length xs)))

-- a test within a test
inside : (a b b' c d : Bool) → (b && c) ≡ (b' && d) → ((a && b) && c) ≡ ((a && b') && d)
inside true b b' c d h = h
inside false b b' c d h = refl

pub row_is : (n m : ℕ) (rule : WordRule) (c d : Option ℕ) (x y : Bool) → n ≡ m → c ≡ d → x ≡ y → row n rule c x ≡ row m rule d y
row_is n m rule c d x y h k l = rw (h, k, l) refl

module _ (b : Before) (e : List RxWord) (s : IsBefore b e) where
  pub data_is : data_by b ≡ breaks_data e
  data_is = rw (s.size, s.burst, s.after_bad) (data_cases e)

  pub max_is : (t : WordLimits) → max_by t b ≡ breaks_max t e
  max_is t = rw (s.size, s.burst) refl

  pub crc_is : (x : ℕ) → crc_by b x ≡ breaks_crc e x
  crc_is x =
      ap₂ (λ (bad : Bool) (r : ℕ). not bad && not (crc_field x == complement 24 (register_after 24 0x328B63 r (bits_of 64 (x / 2 ^ 24 * 2 ^ 24))))) (s.after_bad ∙ sym (bad_since e)) s.register
      ∙ ap (λ (r : ℕ). not (list_any is_bad (since_control e)) && not (crc_field x == complement 24 r)) (sym (register_after-append 24 0x328B63 (2 ^ 24 - 1) (bits_of_words (covered e)) (bits_of 64 (x / 2 ^ 24 * 2 ^ 24))))

  pub short_is : (t : WordLimits) (x : ℕ) → short_by t b x ≡ breaks_short t e x
  short_is t x = rw s.since_burst refl

  pub closes_is : closes_by b ≡ closes_data e
  closes_is = rw (s.size, s.burst) (ap (λ some. is_some (burst_before e) && some) (some_by (data_before e)))

  pub end_is : (x : ℕ) → end_by b x ≡ breaks_end e x
  end_is x = ap₂ (λ closes bad. ends x && (not closes && not bad)) closes_is s.after_bad

  pub fill_is : (x : ℕ) → fill_by b x ≡ breaks_fill e x
  fill_is x = ap (λ rest. is_control_word x && rest) (rw (s.size, s.burst, s.last)
      (inside (is_some (burst_before e)) (not (length (data_before e) == 0)) (has_some (data_before e)) (wrong_fill_by (end_of x) (get_or (data_before e) 0 0)) (has_wrong_fill (end_of x) (data_before e)) (wrong_fill_cases (end_of x) (data_before e))))

  pub part_is : (x : ℕ) → part_by b x ≡ breaks_part e x
  part_is x = ap₂ (λ closes n. (is_control_word x && not (has_end x)) && (closes && not (n % 4 == 0))) closes_is s.size

  pub min_is : (t : WordLimits) (x : ℕ) → min_by t b x ≡ breaks_min t e x
  min_is t x = rw (s.size, s.burst) (ap (λ some. is_control_word x && (some && (nat_lt (burst_bytes (length (data_before e)) (end_of x)) t.burst_min && option_map_or (λ word. not (has_sop word && has_end x)) (burst_before e) false))) (some_by (data_before e)))

  pub channel_is : (wide : Bool) → channel_by wide b ≡ channel_before wide e
  channel_is wide = ap (λ (o : Option ℕ). option_map (channel_number wide) o) s.burst

  pub data_rows_is : (t : WordLimits) → data_rows_by t b ≡ data_rows t e
  data_rows_is t = ap₂ (λ (p q : List Fault). p ++ q)
      (row_is _ _ rules.Data None None _ _ s.number refl data_is)
      (row_is _ _ rules.Max _ _ _ _ s.number (channel_is t.wide) (max_is t))

  pub word_rows_is : (t : WordLimits) (x : ℕ) (next : Option RxWord) → word_rows_by t b x next ≡ word_rows t e x next
  word_rows_is t x next =
      let own : Option ℕ = Some (channel_number t.wide x) in
      ap₂ (λ (p q : List Fault). p ++ q) (row_is _ _ rules.Control None None (breaks_control x) (breaks_control x) s.number refl refl)
      (ap₂ (λ (p q : List Fault). p ++ q) (row_is _ _ rules.Crc None None _ _ s.number refl (crc_is x))
      (ap₂ (λ (p q : List Fault). p ++ q) (row_is _ _ rules.Empty own own (breaks_empty x next) (breaks_empty x next) s.number refl refl)
      (ap₂ (λ (p q : List Fault). p ++ q) (row_is _ _ rules.Short own own _ _ s.number refl (short_is t x))
      (row_is _ _ rules.End None None _ _ s.number refl (end_is x)))))

  pub burst_rows_is : (t : WordLimits) (x : ℕ) → burst_rows_by t b x ≡ burst_rows t e x
  burst_rows_is t x =
      ap₂ (λ (p q : List Fault). p ++ q) (row_is _ _ rules.Fill _ _ _ _ s.number (channel_is t.wide) (fill_is x))
      (ap₂ (λ (p q : List Fault). p ++ q) (row_is _ _ rules.Part _ _ _ _ s.number (channel_is t.wide) (part_is x))
      (row_is _ _ rules.Min _ _ _ _ s.number (channel_is t.wide) (min_is t x)))
