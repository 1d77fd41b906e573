-- Where a number has a 0 nothing is shown.
use Rattle.std.proofs.Common.{ℕ, ◌≡◌, sym, ap, ◌∙◌, subst, ◌*◌, ◌%◌, ◌^◌, ◌<◌, List, length, get_or, arith}
use Rattle.std.specs.Int.{bit_at}
use Rattle.std.proofs.lemmas.Nat.{shl_whole}
use Rattle.lock_model.specs.declared.types.LaneStep.{LaneStep}
use Rattle.lock_model.specs.declared.types.LaneStep.TheVariants as steps
use Rattle.rx_front.specs.declared.shown.Shown.TheVariants as shows
use Rattle.rx_front.specs.Shows.{IsWithin, steps_shown}
use Rattle.rx_front.specs.Steps.{StepsState}
use Rattle.rx_front.proofs.Shows.{ended_covered, step_covered}
use Rattle.rx_front.proofs.steps.LaneSteps.shows.Goals as goal

-- the steps of a number's zeros
abbrev AreNothing : ℕ → List LaneStep → Type 0
AreNothing number g = (k : ℕ) → k < length g → bit_at number k ≡ 0 → get_or g k steps.Ended ≡ steps.Nothing

pub returns-in-End : goal.returns-in-End
returns-in-End c =
    let i = c.self.inside in
    let most = c.self.invariant.0 in
    subst (AreNothing 18446744073709551615) (ap (steps_shown i.width) (sym c.in-End.is) ∙ ap (λ (v : StepsState). v.shown) c.self.view_is)
    (λ k. ended_covered i.width k (omega (arith, most)))

pub returns-in-Step : goal.returns-in-Step
returns-in-Step c =
    let i = c.self.inside in
    let place = c.in-Step.place in
    let most = c.self.invariant.0 in
    let within : place < i.width = (subst (IsWithin i.width) c.in-Step.is c.self.invariant.1).0 in
    let whole : 1 * 2 ^ place % 2 ^ 64 ≡ 1 * 2 ^ place = shl_whole 1 1 place 64 (omega arith) (omega (arith, most, within)) in
    let one : 1 * 2 ^ place ≡ 2 ^ place = omega arith in
    subst (AreNothing (1 * 2 ^ place % 2 ^ 64)) (ap (steps_shown i.width) (sym c.in-Step.is) ∙ ap (λ (v : StepsState). v.shown) c.self.view_is)
    (subst (λ (number : ℕ). AreNothing number (steps_shown i.width (shows.Step place c.in-Step.field-1))) (sym (whole ∙ one))
    (λ k. step_covered i.width place k c.in-Step.field-1 within))
