-- The words of a list up to a place.
use Rattle.std.proofs.Common.{ℕ, ◌≡◌, ◌+◌, ◌<◌, ◌∙◌, ap, sym, List, [], ◌∷◌, ◌++◌, take, length}
use Rattle.std.proofs.lemmas.List.{take_more}
use Rattle.lk_base.specs.Words.{word_at}
use Rattle.lk_base.specs.declared.word.Word.{Word}

-- with the word at k, these are the first k + 1 words
pub next_is : (w : List Word) (k : ℕ) (x : Word) → k < length w → x ≡ word_at w k → take k w ++ x ∷ [] ≡ take (k + 1) w
next_is w k x lt is = ap (λ y. take k w ++ y ∷ []) is ∙ sym (take_more w k _ lt)
