-- The words before a place, and one word more.
use Rattle.std.proofs.Common.{ℕ, suc, ◌-◌, ◌^◌, ◌≡◌, ◌≤◌, ◌<◌, refl, sym, ap, ◌∙◌, Bool, true, false, cond, List, [], ◌∷◌, length, Option, Some, None, IfSome, arith, filter_map}
use Rattle.std.specs.Option.{option_map}
use Rattle.std.specs.List.{list_any, flat_map}
use Rattle.std.proofs.lemmas.List.{reverse-append}
use Rattle.lk_base.specs.Checksum.{bits_of, bits_of_words, register_after}
use Rattle.lk_crc.proofs.Registers.{number_added}
use Rattle.receive_model.specs.Stretches.{data_number}
use Rattle.word_rules.specs.Rules.{covered}
use Rattle.lk_base.specs.declared.word.RxWord.{RxWord}
use Rattle.lk_base.specs.declared.word.RxWord.TheVariants.{Data, Control, Bad}
use Rattle.lk_base.specs.Words.{is_bad}
use Rattle.word_rules.specs.Places.{is_burst_word, known, since_control, data_before, follows_bad, words_since_burst}

pub size_le : (e : List RxWord) → length (data_before e) ≤ length e
size_le [] = omega arith
size_le (Data x ∷ e) = omega (arith, size_le e)
size_le (Control x ∷ e) = omega arith
size_le (Bad ∷ e) = omega arith

pub known_le : (e : List RxWord) → length (known e) ≤ length e
known_le [] = omega arith
known_le (Data x ∷ e) = omega (arith, known_le e)
known_le (Control x ∷ e) = omega (arith, known_le e)
known_le (Bad ∷ e) = omega arith

-- a count, where it is there, is at most m
AtMost : ℕ → Option ℕ → Type 0
AtMost m None = Unit {0}
AtMost m (Some n) = n ≤ m

more_at_most : (m : ℕ) (o : Option ℕ) → AtMost m o → AtMost (suc m) (option_map suc o)
unfolding AtMost
more_at_most m None h = tt
more_at_most m (Some n) h = omega arith

either_at_most : (m : ℕ) (b : Bool) (o : Option ℕ) → AtMost m o → AtMost m (cond b (Some 0) o)
unfolding AtMost
either_at_most m true o h = omega arith
either_at_most m false o h = h

since_at_most : (e : List RxWord) → AtMost (length e) (words_since_burst e)
unfolding AtMost
since_at_most [] = tt
since_at_most (Data x ∷ e) = more_at_most (length e) (words_since_burst e) (since_at_most e)
since_at_most (Control x ∷ e) = either_at_most (suc (length e)) (is_burst_word x) (option_map suc (words_since_burst e)) (more_at_most (length e) (words_since_burst e) (since_at_most e))
since_at_most (Bad ∷ e) = more_at_most (length e) (words_since_burst e) (since_at_most e)

below : (m : ℕ) (o : Option ℕ) → AtMost m o → m < 2 ^ 60 → IfSome o (λ n. n < 2 ^ 61)
unfolding AtMost
below m None h k = tt
below m (Some n) h k = omega arith

-- the count of words since a burst word is small where the words are few
pub since_below : (e : List RxWord) → length e < 2 ^ 60 → IfSome (words_since_burst (known e)) (λ n. n < 2 ^ 61)
since_below e h = below (length (known e)) (words_since_burst (known e)) (since_at_most (known e)) (let k = known_le e in omega arith)

-- a Bad word since the Control word before the place is right before the Data words
pub bad_since : (e : List RxWord) → list_any is_bad (since_control e) ≡ follows_bad e
bad_since [] = refl
bad_since (Data x ∷ e) = bad_since e
bad_since (Control x ∷ e) = refl
bad_since (Bad ∷ e) = refl

-- the register after one more Data word
pub register_more : (r x : ℕ) (e : List RxWord) → r ≡ register_after 24 0x328B63 (2 ^ 24 - 1) (bits_of_words (covered e)) →
    register_after 24 0x328B63 r (bits_of 64 x) ≡ register_after 24 0x328B63 (2 ^ 24 - 1) (bits_of_words (covered (Data x ∷ e)))
register_more r x e h =
    ap (λ (q : ℕ). register_after 24 0x328B63 q (bits_of 64 x)) h
    ∙ sym (ap (λ (xs : List ℕ). register_after 24 0x328B63 (2 ^ 24 - 1) (flat_map (bits_of 64) xs)) (reverse-append (x ∷ []) (filter_map data_number (since_control e)))
    ∙ number_added 24 0x328B63 (2 ^ 24 - 1) 64 (covered e) x)
