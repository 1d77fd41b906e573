-- The run goes on at this word.
use Rattle.std.proofs.Common.{◌≡◌, ◌*◌, ◌-◌, length, ap, arith}
use Rattle.std.proofs.lemmas.Bool.{eqb-true}
use Rattle.lane_lock.specs.Found.{FoundSteps}
use Rattle.lane_lock.proofs.step_list.StepList.goes_on.Goals as goal

pub returns-clause-number : goal.returns-clause-number
returns-clause-number c h =
    let n : c.self.inside.number ≡ c.args.self.now.number = ap (λ (x : FoundSteps). x.number) c.self.view_is in
    let l : length c.payload_words-count.result.now ≡ length c.args.self.now.words = ap length c.payload_words-count.ensures in
    let e = c.if-number-self.false in
    omega (arith, n, l, e)

pub returns-clause-at : goal.returns-clause-at
returns-clause-at c h =
    let n : c.self.inside.at ≡ c.args.self.now.at = ap (λ (x : FoundSteps). x.at) c.self.view_is in
    let l : length c.payload_words-count.result.now ≡ length c.args.self.now.words = ap length c.payload_words-count.ensures in
    let e = eqb-true (c.args.at - c.self.inside.at) (67 * length c.payload_words-count.result.now) h in
    let m = c.if-at-self.false in
    omega (arith, n, l, e, m)
