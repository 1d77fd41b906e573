-- At which bits of the last rounds lanes show nothing.
use Rattle.std.proofs.Common.{ℕ, ◌≡◌, sym, ap, ◌∙◌, ◌+◌, ◌-◌, ◌/◌, ◌%◌, ◌^◌, ◌<◌, ◌≤◌, List, bit_or, arith, All, inl, inr}
use Rattle.std.specs.Int.{bit_at, trailing_zeros, w64}
use Rattle.std.proofs.lemmas.Bool.{cases_lt}
use Rattle.std.proofs.lemmas.Nat.{shr-shr}
use Rattle.std.proofs.lemmas.Nat.Bits.{bit_at_ones, bit_at_or, bit_at-trailing_zeros, bit_at-zero}
use Rattle.lock_model.specs.declared.types.LaneStep.TheVariants as steps
use Rattle.rx_front.specs.States.{Lane}
use Rattle.rx_front.specs.Lanes.{AreCovered, AreWide, Covers, IsTaken, step_at}

-- ---- the zeros of a number

shifted_bit : (n k j : ℕ) → k ≤ j → bit_at (n / 2 ^ k) (j - k) ≡ bit_at n j
shifted_bit n k j le =
    let e : k + (j - k) ≡ j = omega (arith, le) in
    ap (λ x. x % 2) (shr-shr n k (j - k)) ∙ ap (bit_at n) e

-- from bit k on
pub zeros_there : (n k j : ℕ) → n / 2 ^ k < 2 ^ 64 → k ≤ j → j < trailing_zeros w64 (n / 2 ^ k) + k → bit_at n j ≡ 0
zeros_there n k j fits low high = elim (cases_lt 0 (n / 2 ^ k)) [
  | inl some ↦ sym (shifted_bit n k j low) ∙ (bit_at-trailing_zeros w64 (n / 2 ^ k) some fits).2 (j - k) (omega (arith, low, high))
  | inr none ↦ (let e : n / 2 ^ k ≡ 0 = omega (arith, none) in sym (shifted_bit n k j low) ∙ ap (λ x. bit_at x (j - k)) e ∙ bit_at-zero (j - k))
]

-- ---- lanes

-- it took this many bytes, and shows nothing where the number has a 0
abbrev pub TookShown : ℕ → ℕ → ℕ → Lane → Lane → Type 0
TookShown n shows i v w = IsTaken n v w × Covers shows w

pub with_left : (a b : ℕ) (v : Lane) → Covers a v → Covers (bit_or a b) v
with_left a b v c = λ k lt e. c k lt (let m = bit_at_or a b k in omega (arith, m, e))

pub with_right : (a b : ℕ) (v : Lane) → Covers b v → Covers (bit_or a b) v
with_right a b v c = λ k lt e. c k lt (let m = bit_at_or a b k in omega (arith, m, e))

-- a number without zeros
pub covered_by_ones : (width : ℕ) (lanes : List Lane) → width ≤ 64 → AreWide width lanes → AreCovered (2 ^ 64 - 1) lanes
covered_by_ones width lanes le wide = λ i d there k lt e. (let l = wide i d there in let one = bit_at_ones 64 k (omega (arith, le, lt, l)) in absurd (omega (arith, one, e)))

-- at a bit that is 0 no lane shows anything
pub quiet_at : (shows width k : ℕ) (lanes : List Lane) → AreWide width lanes → AreCovered shows lanes → k < width → bit_at shows k ≡ 0 → All (λ v. step_at k v ≡ steps.Nothing) lanes
quiet_at shows width k lanes wide h lt e = λ i d there. h i d there k (let l = wide i d there in omega (arith, lt, l)) e
