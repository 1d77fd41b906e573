-- What stands in front stays.
use Rattle.std.proofs.Common.{◌≡◌, ℕ, List, ◌++◌, length, take, drop, sym, ap, ◌∙◌, append_assoc}
use Rattle.std.proofs.Math.Seq.{take-append_seam, take-length}
use Rattle.std.proofs.lemmas.List.{take-append-drop}
use Rattle.word_text.specs.Bytes.{IsKept}

pub kept-same : (old new : List ℕ) → new ≡ old → IsKept old new
kept-same old new e = ap (take (length old)) e ∙ take-length old

pub kept-put : (old more new : List ℕ) → new ≡ old ++ more → IsKept old new
kept-put old more new e = ap (take (length old)) e ∙ take-append_seam old more

pub kept-then : (old more mid new : List ℕ) → mid ≡ old ++ more → IsKept mid new → IsKept old new
kept-then old more mid new e k =
    kept-put old (more ++ drop (length mid) new) new
    (sym (take-append-drop (length mid) new) ∙ ap (λ (l : List ℕ). l ++ drop (length mid) new) (k ∙ e) ∙ append_assoc old more (drop (length mid) new))

pub kept-trans : (old mid new : List ℕ) → IsKept old mid → IsKept mid new → IsKept old new
kept-trans old mid new h k = kept-then old (drop (length old) mid) mid new (sym (take-append-drop (length old) mid) ∙ ap (λ (l : List ℕ). l ++ drop (length old) mid) h) k

pub kept-by : (old more mid new : List ℕ) → mid ≡ old ++ more → new ≡ mid → IsKept old new
kept-by old more mid new e f = kept-put old more new (f ∙ e)
