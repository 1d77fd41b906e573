-- A word is refused as a word of flow control is, or for the number of words.
use Rattle.std.proofs.Common.{ℕ, ◌≤◌, ◌<◌, ◌^◌, ◌∙◌, reverse, subst, sym}
use Rattle.std.proofs.lemmas.List.{length-reverse}
use Rattle.live_checker.specs.States.{State}
use Rattle.live_checker.specs.Standing.{Checks}
use Rattle.live_checker.proofs.Standing.{not_many, too_many}
use Rattle.live_checker.proofs.checker.LiveChecker.refusal.Goals as goal

pub returns-then-count-ge-MOST_WORDS : goal.returns-then-count-ge-MOST_WORDS
returns-then-count-ge-MOST_WORDS c x h =
    let k = subst (λ (t : State). Checks t x) (sym c.self.view_is) h in
    let n = c.count.ensures x.plan (reverse x.words) k.keeps ∙ length-reverse x.words in
    too_many x (sym (c.flow_refusal.ensures x h) ∙ c.in_default.is) (subst (λ (m : ℕ). 2 ^ 57 ≤ m) n c.if-count-ge-MOST_WORDS.true)

pub returns : goal.returns
returns c x h =
    let k = subst (λ (t : State). Checks t x) (sym c.self.view_is) h in
    let n = c.count.ensures x.plan (reverse x.words) k.keeps ∙ length-reverse x.words in
    not_many x (sym (c.flow_refusal.ensures x h) ∙ c.in_default.is) (subst (λ (m : ℕ). m < 2 ^ 57) n c.if-count-ge-MOST_WORDS.false)
