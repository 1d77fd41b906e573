-- Words are taken up to the first that is not.
use Rattle.std.proofs.Common.{◌≤◌, ◌∙◌, length, sym, subst, refl, arith}
use Rattle.live_checker.specs.States.{State}
use Rattle.live_checker.specs.Standing.{Checked, Checks}
use Rattle.c_checker.specs.Many.{asked}
use Rattle.c_checker.proofs.Taken.{all_taken, asked_past, leads_none, leads_on, stuck_end}
use Rattle.c_checker.proofs.many.take_words.Goals as goal

pub loop-at-init : goal.loop-at-init
loop-at-init c = record { upto = omega arith; same = λ e. refl; takes = λ x k. (x, k, leads_none (asked c.args.words.now) 0 x) }

pub loop-at-preserved : goal.loop-at-preserved
loop-at-preserved c =
    let words = asked c.args.words.now in
    record {
      upto = c.take_next-next.ensures.upto;
      same = λ e. absurd (omega (arith, e, c.if-next-at.false, c.take_next-next.ensures.on));
      takes = λ x k.
          let (y, h, lead) = c.loop-at.invariant.takes x k in
          let (z, g, more) = c.take_next-next.ensures.takes y h in
          (z, g, leads_on words 0 c.loop-at.at c.take_next-next.result x y z lead more);
    }

pub returns-then-next-at-clause-same : goal.returns-then-next-at-clause-same
returns-then-next-at-clause-same c e = c.take_next-next.ensures.same c.if-next-at.true ∙ c.loop-at.invariant.same e

pub returns-then-next-at-clause-count : goal.returns-then-next-at-clause-count
returns-then-next-at-clause-count c x k =
    let (y, h, lead) = c.loop-at.invariant.takes x k in
    (all_taken (asked c.args.words.now) x y c.loop-at.at lead (c.take_next-next.ensures.stuck c.if-next-at.true y h)).0

pub returns-then-next-at-clause-takes : goal.returns-then-next-at-clause-takes
returns-then-next-at-clause-takes c x k =
    let (y, h, lead) = c.loop-at.invariant.takes x k in
    let all = all_taken (asked c.args.words.now) x y c.loop-at.at lead (c.take_next-next.ensures.stuck c.if-next-at.true y h) in
    subst (λ (z : Checked). Checks c.take_next-next.new.checker z) (sym all.1)
    (subst (λ (t : State). Checks t y) (sym (c.take_next-next.ensures.same c.if-next-at.true)) h)

pub returns-clause-count : goal.returns-clause-count
returns-clause-count c x k =
    let (y, h, lead) = c.loop-at.invariant.takes x k in
    let past : length c.args.words.now ≤ c.loop-at.at = omega (arith, c.loop-at-test.false) in
    (all_taken (asked c.args.words.now) x y c.loop-at.at lead (stuck_end (asked c.args.words.now) c.loop-at.at y (asked_past c.args.words.now c.loop-at.at past))).0

pub returns-clause-takes : goal.returns-clause-takes
returns-clause-takes c x k =
    let (y, h, lead) = c.loop-at.invariant.takes x k in
    let past : length c.args.words.now ≤ c.loop-at.at = omega (arith, c.loop-at-test.false) in
    let all = all_taken (asked c.args.words.now) x y c.loop-at.at lead (stuck_end (asked c.args.words.now) c.loop-at.at y (asked_past c.args.words.now c.loop-at.at past)) in
    subst (λ (z : Checked). Checks c.loop-at.checker z) (sym all.1) h
