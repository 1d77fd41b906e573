-- What is still to be appended to outputs, after what was appended.
use Rattle.std.specs.Prelude.{ℕ, List, [], ◌∷◌, ◌++◌, map}
use Rattle.run_shell.specs.Open.{Open}

-- what is still to be appended to each
abbrev pub rests_of : List Open → List (List ℕ)
rests_of opens = map (λ (f : Open). f.rest) opens

-- what each was given: what was appended, and then its rest
abbrev pub join : List (List ℕ) → List (List ℕ) → List (List ℕ)
join (d ∷ ds) (r ∷ rs) = (d ++ r) ∷ join ds rs
join _ _ = []
