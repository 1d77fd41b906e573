-- After the word 0 no word counts before one with the reset bit.
use Rattle.std.proofs.Common.{◌≡◌, ℕ, Bool, true, false, List, [], ◌∷◌, ◌++◌, All, None, refl}
use Rattle.std.proofs.lemmas.List.Elements.{All-head, All-tail}
use Rattle.stream_model.specs.Calendar.{is_valid, is_reset, word_number}
use Rattle.calendar.proofs.Rows.{number_invalid}

-- a word that is no reset word gives none after none
none_after : (word : ℕ) (earlier : List ℕ) (valid : Bool) → is_valid word ≡ valid → is_reset word ≡ false → word_number earlier ≡ None → word_number (word ∷ earlier) ≡ None
unfolding word_number
none_after word earlier false v r e = rw v refl
none_after word earlier true v r e = let s = rw v at r in rw (v, s, e) refl

pub ends_counting : (later earlier : List ℕ) → All (λ word. is_reset word ≡ false) later → word_number (later ++ 0 ∷ earlier) ≡ None
ends_counting [] earlier h = number_invalid 0 earlier refl
ends_counting (word ∷ later) earlier h =
    none_after word (later ++ 0 ∷ earlier) (is_valid word) refl (All-head (λ (w : ℕ). is_reset w ≡ false) word later h)
    (ends_counting later earlier (All-tail (λ (w : ℕ). is_reset w ≡ false) word later h))
