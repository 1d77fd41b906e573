-- Contents by channel that begin so.
use Rattle.std.proofs.Common.{◌≡◌, ℕ, List, [], ◌∷◌, ◌++◌, map}
use Rattle.run_shell.specs.Outputs.{Prefixes}

pub map_begins : (f g : ℕ → List ℕ) → ((channel : ℕ) → (rest : List ℕ) × (g channel ≡ f channel ++ rest)) → (channels : List ℕ) (xs ys : List (List ℕ)) → Prefixes xs ys → Prefixes (map f channels ++ xs) (map g channels ++ ys)
map_begins f g begins [] xs ys h = h
map_begins f g begins (c ∷ channels) xs ys h = (begins c, map_begins f g begins channels xs ys h)

pub all_begin : (f g : ℕ → List ℕ) → ((channel : ℕ) → (rest : List ℕ) × (g channel ≡ f channel ++ rest)) → (channels : List ℕ) → Prefixes (map f channels) (map g channels)
all_begin f g begins [] = tt
all_begin f g begins (c ∷ channels) = (begins c, all_begin f g begins channels)
