-- Bits by their numbers.
use Rattle.std.proofs.Common.{ℕ, zero, suc, ◌≡◌, refl, ap, ◌∙◌, ◌+◌, ◌<◌, Bool, false, List, [], ◌∷◌, length, map, get_or, arith}
use Rattle.std.specs.List.{enumerate_from}

pub numbered : (f : ℕ × Bool → Bool) (n : ℕ) (xs : List Bool) (i : ℕ) → i < length xs → get_or (map f (enumerate_from n xs)) i false ≡ f (n + i, get_or xs i false)
numbered f n [] i h = absurd (omega arith)
numbered f n (x ∷ xs) zero h = let e : n + 0 ≡ n = omega arith in rw e refl
numbered f n (x ∷ xs) (suc i) h = let e : n + 1 + i ≡ n + suc i = omega arith in numbered f (n + 1) xs i (omega (arith, h)) ∙ ap (λ k. f (k, get_or xs i false)) e
