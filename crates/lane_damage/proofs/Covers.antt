-- Which bits dark stretches cover.
use Rattle.std.proofs.Common.{ℕ, ◌≡◌, refl, ◌+◌, ◌≤◌, ◌<◌, Bool, true, false, List, [], ◌∷◌, ◌++◌, inl, inr}
use Rattle.std.specs.Prelude.{◌&&◌, ◌||◌, nat_le, nat_lt}
use Rattle.std.specs.List.{list_any}
use Rattle.std.proofs.lemmas.Bool.{cases_Bool, and_from, le-leb, lt-ltb}
use Rattle.lane_model.specs.Damage.{DarkBits}

abbrev pub covers : ℕ → DarkBits → Bool
covers n d = nat_le d.first n && nat_lt n (d.first + d.count)

abbrev pub covered : List DarkBits → ℕ → Bool
covered darks n = list_any (λ (d : DarkBits). nat_le d.first n && nat_lt n (d.first + d.count)) darks

or_last : (t : Bool) → (t || false) ≡ (false || t)
or_last true = refl
or_last false = refl

pub covered-more : (front : List DarkBits) (x : DarkBits) (n : ℕ) → covered (front ++ x ∷ []) n ≡ (covered front n || covers n x)
covered-more [] x n = or_last (covers n x)
covered-more (y ∷ front) x n = elim (cases_Bool (covers n y)) [
  | inl h ↦ rw h refl
  | inr h ↦ rw h (covered-more front x n)
]

pub covers-from : (x : DarkBits) (n : ℕ) → x.first ≤ n → n < x.first + x.count → covers n x ≡ true
covers-from x n a b = and_from (nat_le x.first n) (nat_lt n (x.first + x.count)) (le-leb x.first n a) (lt-ltb n (x.first + x.count) b)
