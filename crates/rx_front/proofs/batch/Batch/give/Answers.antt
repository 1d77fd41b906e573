-- The deskew takes the steps in three parts.
use Rattle.std.proofs.Common.{ℕ, ◌+◌, ◌-◌, ◌*◌, ◌^◌, ◌<◌, ◌≤◌, ◌++◌, sym, ap, ◌∙◌, subst, List, length, arith}
use Rattle.lk_base.specs.declared.word.RxWord.{RxWord}
use Rattle.deskew.specs.Steps.{steps_taken}
use Rattle.lock_model.specs.declared.types.LaneStep.{LaneStep}
use Rattle.lock_model.specs.Low.{all_low}
use Rattle.lock_model.specs.PayloadSteps.{payload_steps}
use Rattle.rx_front.proofs.Slices.{low_back, low_front, low_payloads, taken_in_three}
use Rattle.rx_front.proofs.batch.Batch.give.Goals as goal

pub take_steps-requires-clause-low : goal.take_steps-requires-clause-low
take_steps-requires-clause-low c =
    let found = c.self.inside.found in
    subst (λ (xs : List LaneStep). all_low xs) (sym c.first_steps.ensures)
    (low_front found.before (payload_steps found.number found.at found.words ++ found.after) c.self.invariant.1)

pub take_payloads-requires-clause-low : goal.take_payloads-requires-clause-low
take_payloads-requires-clause-low c =
    let found = c.self.inside.found in
    let words = payload_steps found.number found.at found.words in
    let low = low_payloads found.number found.at found.words (low_front words found.after (low_back found.before (words ++ found.after) c.self.invariant.1)) in
    subst (λ (ws : List RxWord). 1 ≤ length ws → c.payload_at.result + 67 * (length ws - 1) < 2 ^ 60) (sym c.payload_words.ensures)
    (subst (λ (at : ℕ). 1 ≤ length found.words → at + 67 * (length found.words - 1) < 2 ^ 60) (sym c.payload_at.ensures) low)

pub take_steps-requires-2-clause-low : goal.take_steps-requires-2-clause-low
take_steps-requires-2-clause-low c =
    let found = c.self.inside.found in
    let words = payload_steps found.number found.at found.words in
    subst (λ (xs : List LaneStep). all_low xs) (sym c.last_steps.ensures)
    (low_back words found.after (low_back found.before (words ++ found.after) c.self.invariant.1))

pub returns : goal.returns
returns c =
    let found = c.self.inside.found in
    let d = c.args.deskew.now in
    let lane = c.args.lane in
    let words = payload_steps found.number found.at found.words in
    let one = c.take_steps.ensures.taken ∙ ap (λ (xs : List LaneStep). steps_taken lane xs d) c.first_steps.ensures in
    let two = c.take_payloads.ensures.taken found.number
    ∙ ap (λ (at : ℕ). steps_taken lane (payload_steps found.number at c.payload_words.result.now) c.take_steps.new.self) c.payload_at.ensures
    ∙ ap (λ (ws : List RxWord). steps_taken lane (payload_steps found.number found.at ws) c.take_steps.new.self) c.payload_words.ensures in
    let three = c.take_steps-2.ensures.taken ∙ ap (λ (xs : List LaneStep). steps_taken lane xs c.take_payloads.new.self) c.last_steps.ensures in
    let count = c.take_steps.ensures.count in
    let below = c.requires in
    taken_in_three lane found.before words found.after d c.take_steps.new.self c.take_payloads.new.self c.take_steps-2.new.self (omega (arith, count, below)) one two three
    ∙ ap (λ (xs : List LaneStep). steps_taken lane xs d) c.self.view_is
