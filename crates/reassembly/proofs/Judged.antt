-- A stretch that is taken word by word has the fault of the definition.
use Rattle.std.proofs.Common.{ℕ, ◌≡◌, refl, sym, ap, ◌∙◌, ◌^◌, ◌-◌, Bool, false, not, List, [], ◌∷◌, length, Some, arith, ◌==◌}
use Rattle.std.proofs.lemmas.Bool.{ne_eqb}
use Rattle.receive_model.specs.Stretches.{fault_from, has_some}
use Rattle.reassembly.specs.declared.stretch.Stretch.{Stretch}
use Rattle.reassembly.specs.Carries.{register_of}
use Rattle.reassembly.specs.Steps.{fault_by}
use Rattle.reassembly.specs.StretchLaw.{StretchesAreJudged, stretch_after}
use Rattle.reassembly.proofs.Carrying.{fault-of}
use Rattle.reassembly.proofs.Folds.{data-on}

some_words : (words : List ℕ) → not (length words == 0) ≡ has_some words
some_words [] = refl
some_words (x ∷ xs) = ap (λ (b : Bool). not b) (ne_eqb (length (x ∷ xs)) 0 (λ e. omega (arith, e)))

judged_by : (before : ℕ) (words : List ℕ) (bad : Bool) (last : ℕ) (s : Stretch) → s.register ≡ register_of words → s.some ≡ not (length words == 0) →
    fault_by bad before s.register s.some last ≡ fault_from bad before words last
judged_by before words bad last s r h =
    ap (λ (n : ℕ). fault_by bad before n s.some last) r
    ∙ ap (λ (b : Bool). fault_by bad before (register_of words) b last) (h ∙ some_words words)
    ∙ fault-of bad before words last

pub stretches_are_judged : StretchesAreJudged
stretches_are_judged opened words bad last =
    let on = data-on words (Some opened) (2 ^ 24 - 1) false false refl in
    judged_by opened.number words bad last (stretch_after opened words)
    (sym (ap (λ (s : Stretch). s.register) on))
    (sym (ap (λ (s : Stretch). s.some) on))
