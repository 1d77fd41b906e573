-- Whether a line is that of one thing or of none.
use Rattle.std.proofs.Common.{◌⊎◌, inl, inr, ◌≡◌, ℕ, Bool, true, false, List, refl, sym, subst}
use Rattle.std.specs.Str.{bytes_eq}
use Rattle.std.proofs.lemmas.Slice.Eq.{bytes_eq-Decides}

abbrev pub Decided : Type 0 → Type 0
Decided A = A ⊎ (A → ⊥)

pub same-text : (a b : List ℕ) → Decided (a ≡ b)
same-text a b = by-test (bytes_eq a b) refl
  where
    by-test : (t : Bool) → bytes_eq a b ≡ t → Decided (a ≡ b)
    by-test true e = inl ((bytes_eq-Decides a b).0 e)
    by-test false e = inr (λ same. let equal = (bytes_eq-Decides a b).1 same in absurd cc)

-- the one thing of which the line can be one, and its line
module _ (X : Type 0) (IsSized : X → Type 0) (IsLine : X → List ℕ → Type 0) (once : (x : X) (a b : List ℕ) → IsLine x a → IsLine x b → a ≡ b) (line : List ℕ) where
  pub decided : (x : X) → IsSized x → ((y : X) → IsSized y → IsLine y line → x ≡ y) → (told : List ℕ) → IsLine x told → Decided ((y : X) × IsSized y × IsLine y line)
  decided x sized only told is = by-text (same-text told line)
    where
      by-text : Decided (told ≡ line) → Decided ((y : X) × IsSized y × IsLine y line)
      by-text (inl e) = inl (x, sized, subst (IsLine x) e is)
      by-text (inr n) = inr (λ (y, s, k). n (once x told line is (subst (λ (z : X). IsLine z line) (sym (only y s k)) k)))
