-- How many counters are above one.
use Rattle.std.proofs.Common.{ℕ, zero, suc, ◌≡◌, refl, ◌+◌, ◌<◌, ◌≤◌, List, [], ◌∷◌, length, get_or, set, replicate, arith, inl, inr}
use Rattle.std.proofs.lemmas.Bool.{cases_lt, lt-ltb, le-ltb}
use Rattle.phase_finder.specs.Phases.{above_one, highest, over_one}

pub over_most : (c : ℕ) → over_one c ≤ 1
over_most c = elim (cases_lt 1 c) [
  | inl l ↦ (let e : over_one c ≡ 1 = rw (lt-ltb 1 c l) refl in omega (arith, e))
  | inr l ↦ (let e : over_one c ≡ 0 = rw (le-ltb 1 c l) refl in omega (arith, e))
]

pub over_none : (c : ℕ) → over_one c ≡ 0 → c ≤ 1
over_none c none = elim (cases_lt 1 c) [
  | inl l ↦ (let e : over_one c ≡ 1 = rw (lt-ltb 1 c l) refl in absurd (omega (arith, e, none)))
  | inr l ↦ omega (arith, l)
]

pub over_low : (c : ℕ) → c ≤ 1 → over_one c ≡ 0
over_low c low = rw (le-ltb 1 c low) refl

pub above_most : (counts : List ℕ) → above_one counts ≤ length counts
above_most [] = omega arith
above_most (c ∷ counts) = (let m = above_most counts in let o = over_most c in omega (arith, m, o))

-- each of them counts
pub one_above : (counts : List ℕ) (i : ℕ) → over_one (get_or counts i 0) ≤ above_one counts
one_above [] i = omega arith
one_above (c ∷ counts) zero = omega arith
one_above (c ∷ counts) (suc i) = (let o = one_above counts i in omega (arith, o))

-- of zeros none is
pub above_zeros : (n : ℕ) → above_one (replicate n 0) ≡ 0
above_zeros zero = refl
above_zeros (suc n) = (let z = above_zeros n in omega (arith, z))

-- one of them changes
pub above_set : (counts : List ℕ) (i x : ℕ) → i < length counts → above_one (set counts i x) + over_one (get_or counts i 0) ≡ above_one counts + over_one x
above_set [] i x here = absurd (omega (arith, here))
above_set (c ∷ counts) zero x here = omega arith
above_set (c ∷ counts) (suc i) x here = (let e = above_set counts i x (omega (arith, here)) in omega (arith, e))

-- none is if the highest is not
pub none_above : (counts : List ℕ) → above_one counts ≡ 0 → highest counts ≤ 1
none_above [] none = omega arith
none_above (c ∷ counts) none =
    let l = over_none c (omega (arith, none)) in
    let h = none_above counts (omega (arith, none)) in
    omega (arith, l, h)

pub low_highest : (counts : List ℕ) → highest counts ≤ 1 → above_one counts ≡ 0
low_highest [] low = refl
low_highest (c ∷ counts) low =
    let o = over_low c (omega (arith, low)) in
    let h = low_highest counts (omega (arith, low)) in
    omega (arith, o, h)
