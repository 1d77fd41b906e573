-- Pieces of a line, one after the other.
use Rattle.std.proofs.Common.{◌≡◌, ℕ, List, ◌++◌, ap, ◌∙◌, append_assoc}

-- two pieces after a text
pub both : (old mid new p q : List ℕ) → mid ≡ old ++ p → new ≡ mid ++ q → new ≡ old ++ (p ++ q)
both old mid new p q e f = f ∙ ap (λ (xs : List ℕ). xs ++ q) e ∙ append_assoc old p q

-- a piece of two parts, and one more
pub named : (old mid new p v q : List ℕ) → mid ≡ old ++ (p ++ v) → new ≡ mid ++ q → new ≡ old ++ (p ++ (v ++ q))
named old mid new p v q e f = both old mid new (p ++ v) q e f ∙ ap (λ (xs : List ℕ). old ++ xs) (append_assoc p v q)
