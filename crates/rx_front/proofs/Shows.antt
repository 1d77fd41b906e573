-- The steps of the bits of the last bytes, one by one.
use Rattle.std.proofs.Common.{ℕ, zero, suc, ◌≡◌, refl, sym, ap, ◌∙◌, ◌+◌, ◌-◌, ◌<◌, ◌≤◌, ◌^◌, ◌==◌, true, false, List, [], ◌∷◌, ◌++◌, length, get_or, replicate, arith, inl, inr, eqb-true}
use Rattle.std.specs.Int.{bit_at}
use Rattle.std.specs.Prelude.{nat_lt}
use Rattle.std.proofs.lemmas.Bool.{cases_Bool, cases_lt, eq-eqb, lt-ltb, le-ltb}
use Rattle.std.proofs.lemmas.List.{get_or-replicate, length-append, length-replicate}
use Rattle.std.proofs.lemmas.Nat.Bits.{bit_at-pow_same, bit_at_ones}
use Rattle.lock_model.specs.declared.types.LaneStep.{LaneStep}
use Rattle.lock_model.specs.declared.types.LaneStep.TheVariants as steps
use Rattle.rx_front.specs.declared.shown.Shown.{Shown}
use Rattle.rx_front.specs.declared.shown.Shown.TheVariants as shows
use Rattle.rx_front.specs.Shows.{IsWithin, steps_shown}

-- a step among steps that show nothing
pub there : (place n : ℕ) (x : LaneStep) → get_or (replicate place steps.Nothing ++ x ∷ replicate n steps.Nothing) place steps.Ended ≡ x
there zero n x = refl
there (suc place) n x = there place n x

pub elsewhere : (place n k : ℕ) (x : LaneStep) → k < place + 1 + n → (k ≡ place → ⊥) → get_or (replicate place steps.Nothing ++ x ∷ replicate n steps.Nothing) k steps.Ended ≡ steps.Nothing
elsewhere zero n zero x lt ne = absurd (ne refl)
elsewhere zero n (suc k) x lt ne = get_or-replicate n k steps.Nothing steps.Ended (omega (arith, lt))
elsewhere (suc place) n zero x lt ne = refl
elsewhere (suc place) n (suc k) x lt ne = elsewhere place n k x (omega (arith, lt)) (λ e. ne (ap suc e))

count_step : (width place : ℕ) (step : LaneStep) → place < width → length (steps_shown width (shows.Step place step)) ≡ width
count_step width place step lt =
    let a = length-append (replicate place steps.Nothing) (step ∷ replicate (width - 1 - place) steps.Nothing) in
    let b = length-replicate place steps.Nothing in
    let c = length-replicate (width - 1 - place) steps.Nothing in
    omega (arith, a, b, c, lt)

pub count : (width : ℕ) (f : Shown) → IsWithin width f → length (steps_shown width f) ≡ width
count width shows.End within = length-replicate width steps.Ended
count width shows.Quiet within = length-replicate width steps.Nothing
count width (shows.Step place step) within = count_step width place step within.0

-- after all steps
pub behind : (xs : List LaneStep) (k : ℕ) → length xs ≤ k → get_or xs k steps.Ended ≡ steps.Ended
behind [] k le = refl
behind (x ∷ xs) zero le = absurd (omega (arith, le))
behind (x ∷ xs) (suc k) le = behind xs k (omega (arith, le))

-- the step of bit k, told by two tests
pub step_there : (place width k : ℕ) (x r : LaneStep) → place < width → ((place == k) ≡ true → r ≡ x) → ((place == k) ≡ false → nat_lt k width ≡ true → r ≡ steps.Nothing) →
    ((place == k) ≡ false → nat_lt k width ≡ false → r ≡ steps.Ended) → r ≡ get_or (steps_shown width (shows.Step place x)) k steps.Ended
step_there place width k x r within here elsewhere_is behind_is = elim (cases_Bool (place == k)) [
  | inl e ↦ here e ∙ sym (ap (λ (n : ℕ). get_or (steps_shown width (shows.Step place x)) n steps.Ended) (sym (eqb-true place k e)) ∙ there place (width - 1 - place) x)
  | inr e ↦ elim (cases_lt k width) [
    | inl lt ↦ elsewhere_is e (lt-ltb k width lt) ∙ sym (elsewhere place (width - 1 - place) k x (omega (arith, lt, within)) (λ is. (let f : true ≡ false = sym (eq-eqb place k (sym is)) ∙ e in cc)))
    | inr le ↦ behind_is e (le-ltb k width le) ∙ sym (behind (steps_shown width (shows.Step place x)) k (let n = count_step width place x within in omega (arith, n, le)))
  ]
]

-- no bit of this many is 0 where a lane has ended, and that of a step is 1
pub ended_covered : (width k : ℕ) → width ≤ 64 → k < length (steps_shown width shows.End) → bit_at (2 ^ 64 - 1) k ≡ 0 → get_or (steps_shown width shows.End) k steps.Ended ≡ steps.Nothing
ended_covered width k le lt zero_there =
    let l = length-replicate width steps.Ended in
    let one = bit_at_ones 64 k (omega (arith, le, lt, l)) in
    absurd (omega (arith, one, zero_there))

pub step_covered : (width place k : ℕ) (x : LaneStep) → place < width → k < length (steps_shown width (shows.Step place x)) → bit_at (2 ^ place) k ≡ 0 →
    get_or (steps_shown width (shows.Step place x)) k steps.Ended ≡ steps.Nothing
step_covered width place k x within lt zero_there =
    let l = count_step width place x within in
    elsewhere place (width - 1 - place) k x (omega (arith, within, lt, l))
    (λ e. (let one = bit_at-pow_same place in let same = ap (bit_at (2 ^ place)) e in absurd (omega (arith, one, zero_there, same))))
