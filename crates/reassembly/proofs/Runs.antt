-- Data words of one group that are put at once are put as one after another.
use Rattle.std.proofs.Common.{ℕ, ◌≡◌, inr, ◌+◌, refl, sym, subst, true, false, List, [], ◌∷◌, ◌++◌, append_assoc, append-nil, map, arith}
use Rattle.std.specs.List.{list_all}
use Rattle.std.proofs.lemmas.Bool.{and_parts}
use Rattle.lk_base.specs.declared.position.Pos.{Pos}
use Rattle.lk_base.specs.declared.word.Aligned.{Aligned}
use Rattle.lk_base.specs.declared.word.Aligned.TheVariants.{Group, Word, Break}
use Rattle.lk_base.specs.declared.word.RxWord.{RxWord}
use Rattle.lk_base.specs.declared.word.RxWord.TheVariants as words
use Rattle.lk_base.specs.Positions.{is_before, words_from}
use Rattle.receive_model.specs.Behind.{is_earlier, is_after}
use Rattle.receive_model.specs.Events.{Event, Setting}
use Rattle.receive_model.proofs.Order.{before-trans, before_from}
use Rattle.reassembly.specs.Folds.{with_data_at_once, with_data_words}
use Rattle.reassembly.specs.Stands.{Stands}
use Rattle.reassembly.specs.States.{NothingWaits, State}
use Rattle.reassembly.specs.Steps.{after_word, with_data_word}
use Rattle.reassembly.proofs.Folds.{at_once}
use Rattle.reassembly.proofs.Putting.{stands-put}

-- ---- the place of the next word

abbrev pub place : ℕ → ℕ → Pos
place group index = record { group = group; index = index }

next-place : (g i : ℕ) → is_before (place g i) (place g (i + 1)) ≡ true
next-place g i = before_from (place g i) (place g (i + 1)) (inr (refl, omega arith))

earlier-next : (g i : ℕ) (x : Aligned) → is_earlier (place g i) x ≡ true → is_earlier (place g (i + 1)) x ≡ true
earlier-next g i (Group at) h = refl
earlier-next g i (Word at word) h = before-trans at (place g i) (place g (i + 1)) h (next-place g i)
earlier-next g i (Break at why) h = before-trans at (place g i) (place g (i + 1)) h (next-place g i)

pub after-next : (g i : ℕ) (w : RxWord) (put : List Aligned) → is_after (place g i) put ≡ true → is_after (place g (i + 1)) (put ++ Word (place g i) w ∷ []) ≡ true
after-next g i w [] h = rw (next-place g i) refl
after-next g i w (x ∷ rest) h =
    let both = and_parts (is_earlier (place g i) x) (list_all (is_earlier (place g i)) rest) h in
    rw (earlier-next g i x both.0) (after-next g i w rest both.1)

-- ---- data words at once

stands-each : (xs : List ℕ) (r : State) (g i : ℕ) (setting : Setting) (put : List Aligned) (given : List Event) → NothingWaits r → is_after (place g i) put ≡ true → Stands r setting put false given →
    Stands (with_data_words r xs) setting (put ++ words_from g i (map words.Data xs)) false given
stands-each [] r g i setting put given waits after stands = subst (λ (p : List Aligned). Stands r setting p false given) (sym (append-nil put)) stands
stands-each (x ∷ xs) r g i setting put given waits after stands =
    let one : Stands (after_word r (place g i) (words.Data x)) setting (put ++ Word (place g i) (words.Data x) ∷ []) false given = stands-put r setting put given (Word (place g i) (words.Data x)) waits after stands in
    subst (λ (p : List Aligned). Stands (with_data_words (with_data_word r x) xs) setting p false given)
    (append_assoc put (Word (place g i) (words.Data x) ∷ []) (words_from g (i + 1) (map words.Data xs)))
    (stands-each xs (with_data_word r x) g (i + 1) setting (put ++ Word (place g i) (words.Data x) ∷ []) given waits (after-next g i (words.Data x) put after) one)

-- data words that are taken at once are put as one after another
pub stands-data : (xs : List ℕ) (r : State) (g i : ℕ) (setting : Setting) (put : List Aligned) (given : List Event) → NothingWaits r → is_after (place g i) put ≡ true → Stands r setting put false given →
    Stands (with_data_at_once r xs) setting (put ++ words_from g i (map words.Data xs)) false given
stands-data xs r g i setting put given waits after stands =
    subst (λ (s : State). Stands s setting (put ++ words_from g i (map words.Data xs)) false given) (at_once xs r) (stands-each xs r g i setting put given waits after stands)
