-- The flow words before the output are given up.
use Rattle.std.proofs.Common.{rules, ◌≡◌, ◌<◌, ◌≤◌, ◌∙◌, ◌+◌, true, length, drop, sym, arith}
use Rattle.reassembly.specs.Flows.{is_flow_out}
use Rattle.reassembly.proofs.Passed.{given-passed, one-fewer, passed-more, passed-none}
use Rattle.reassembly.proofs.reassembly.Reassembly.next_but_flow.Goals as goal

pub loop-out-init : goal.loop-out-init
loop-out-init c = passed-none c.args.self.now

pub returns-then-not-matches-clause-gives : goal.returns-then-not-matches-clause-gives
returns-then-not-matches-clause-gives c setting put finished given stands =
    rw (c.give.ensures.state, sym c.in-Some.is ∙ c.give.ensures.out) (given-passed c.args.self.now c.loop-out.self c.loop-out.invariant c.give.ensures.lent setting put finished given stands)

pub returns-then-not-matches-clause-freed : goal.returns-then-not-matches-clause-freed
returns-then-not-matches-clause-freed c lent = rw c.give.ensures.state (c.loop-out.invariant.freed lent)

pub returns-then-not-matches-clause-fewer : goal.returns-then-not-matches-clause-fewer
returns-then-not-matches-clause-fewer c =
    let one : length (drop 1 c.loop-out.self.waiting) + 1 ≡ length c.loop-out.self.waiting = one-fewer c.loop-out.self.waiting c.in-Some.out (sym c.give.ensures.out ∙ c.in-Some.is) in
    let before : length c.loop-out.self.waiting ≤ length c.args.self.now.waiting = c.loop-out.invariant.fewer in
    let less : length (drop 1 c.loop-out.self.waiting) < length c.args.self.now.waiting = omega arith in
    rw c.give.ensures.state less

pub loop-out-smaller : goal.loop-out-smaller
loop-out-smaller c =
    let one : length (drop 1 c.loop-out.self.waiting) + 1 ≡ length c.loop-out.self.waiting = one-fewer c.loop-out.self.waiting c.in-Some.out (sym c.give.ensures.out ∙ c.in-Some.is) in
    let less : length (drop 1 c.loop-out.self.waiting) < length c.loop-out.self.waiting = omega arith in
    rw c.give.ensures.state less

pub loop-out-preserved : goal.loop-out-preserved
loop-out-preserved c =
    let flow : is_flow_out c.in-Some.out ≡ true = search rules in
    rw c.give.ensures.state (passed-more c.args.self.now c.loop-out.self c.loop-out.invariant c.give.ensures.lent c.in-Some.out (sym c.give.ensures.out ∙ c.in-Some.is) flow)

pub returns-clause-gives : goal.returns-clause-gives
returns-clause-gives c setting put finished given stands =
    rw (c.give.ensures.state, sym c.in_default.is ∙ c.give.ensures.out) (given-passed c.args.self.now c.loop-out.self c.loop-out.invariant c.give.ensures.lent setting put finished given stands)

pub returns-clause-freed : goal.returns-clause-freed
returns-clause-freed c lent = rw c.give.ensures.state (c.loop-out.invariant.freed lent)
