-- Many words, given one after another.
use Rattle.std.specs.Prelude.{ℕ, ◌≡◌, ◌+◌, suc, Bool, true, false, cond, is_some, List, [], ◌∷◌, map, drop, Option, Some, None}
use Rattle.lk_base.specs.declared.word.RxWord.{RxWord}
use Rattle.live_checker.specs.declared.misuse.Misuse.{Misuse}
use Rattle.live_checker.specs.Calls.{word_refusal}
use Rattle.live_checker.specs.Standing.{Checked, Checks, with_word}
use Rattle.live_checker.specs.States.{State}
use Rattle.c_parts.specs.Codes.{done, out_of_range}
use Rattle.c_checker.specs.Codes.{misuse_code, word_of}
use Rattle.c_checker.specs.declared.many.CWord.{CWord}

-- the words as C gives them, if there are such kinds
abbrev pub asked : List CWord → List (Option RxWord)
asked words = map (λ (w : CWord). word_of w.kind w.number) words

-- how many of the words are taken, one after another: those before the first that is refused, or is of no kind
abbrev pub count_taken : List (Option RxWord) → Checked → ℕ
count_taken [] x = 0
count_taken (None ∷ words) x = 0
count_taken (Some word ∷ words) x = cond (is_some (word_refusal x)) 0 (suc (count_taken words (with_word word x)))

-- what was given once they are
abbrev pub after_taken : List (Option RxWord) → Checked → Checked
after_taken [] x = x
after_taken (None ∷ words) x = x
after_taken (Some word ∷ words) x = cond (is_some (word_refusal x)) x (after_taken words (with_word word x))

-- the result: why a word would be refused, or else whether the first is of no kind
abbrev pub words_code : List (Option RxWord) → Option Misuse → ℕ
words_code words (Some why) = misuse_code why
words_code [] None = done
words_code (None ∷ words) None = out_of_range
words_code (Some word ∷ words) None = done

-- words are given as if one after another by `word`; if none is taken nothing has changed
pub record GivesWords (t u : State) (words : List (Option RxWord)) (result taken : ℕ) : Type 0 where
  pub code : (x : Checked) → Checks t x → result ≡ words_code words (word_refusal x)
  pub count : (x : Checked) → Checks t x → taken ≡ count_taken words x
  pub takes : (x : Checked) → Checks t x → Checks u (after_taken words x)
  pub same : taken ≡ 0 → u ≡ t

-- ---- within

-- a word is taken; or it is refused, and nothing has changed
abbrev pub IsTaken : State → State → RxWord → Bool → Type 0
IsTaken t u word true = (x : Checked) → Checks t x → (word_refusal x ≡ None) × Checks u (with_word word x)
IsTaken t u word false = ((x : Checked) → Checks t x → is_some (word_refusal x) ≡ true) × (u ≡ t)

-- the words from place `at` on are taken after x was given, as those from place `on` on are after y was given, and all between
pub record LeadsTo (words : List (Option RxWord)) (at : ℕ) (x : Checked) (on : ℕ) (y : Checked) : Type 0 where
  pub count : at + count_taken (drop at words) x ≡ on + count_taken (drop on words) y
  pub after : after_taken (drop at words) x ≡ after_taken (drop on words) y

-- none of the words from place `at` on is taken after x was given
pub record IsStuck (words : List (Option RxWord)) (at : ℕ) (x : Checked) : Type 0 where
  pub count : count_taken (drop at words) x ≡ 0
  pub after : after_taken (drop at words) x ≡ x
