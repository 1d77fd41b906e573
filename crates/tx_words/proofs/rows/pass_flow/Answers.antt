use Rattle.tx_words.proofs.Passing.{no_flow, one_flow, later_behind, still_open}
use Rattle.stream_model.specs.declared.rows.FlowRow.{FlowRow}
use Rattle.tx_words.specs.Driving.{having_flow}
use Rattle.std.proofs.Common.{take, length, ◌<◌, arith}
use Rattle.burst_scheduler.proofs.Calls.{has_words}
use Rattle.tx_words.proofs.rows.pass_flow.Goals as goal

pub loop-count-init : goal.loop-count-init
loop-count-init c = no_flow c.args.scheduler.now c.args.flow.now c.args.passed c.args.slot c.requires.within

pub flow-requires : goal.flow-requires
flow-requires c =
    let (a, g, rows, at, calls) = c.requires.gives in
    let q = c.loop-count.invariant.gives a g rows at calls in
    let more : c.args.passed < length c.args.flow.now = omega (arith, c.loop-count.invariant.more) in
    record { gives = (having_flow a (take c.loop-count.count c.args.flow.now) q.waits, has_words q.gives, still_open a.closed (length c.args.flow.now) c.args.passed calls more) }

pub loop-count-preserved : goal.loop-count-preserved
loop-count-preserved c = one_flow c.args.scheduler.now c.loop-count.scheduler c.flow.new.self c.args.flow.now c.args.passed c.loop-count.count c.args.slot (record { slot = 0; word = 0 }) c.loop-count.invariant c.loop-count-test.true c.if-flow-count.true c.flow.ensures.gives

pub returns-else-flow-count-clause-later : goal.returns-else-flow-count-clause-later
returns-else-flow-count-clause-later c = λ sorted later.
    later_behind (λ (row : FlowRow). row.slot) c.args.flow.now c.args.passed c.loop-count.count c.args.slot (record { slot = 0; word = 0 }) sorted later c.loop-count.invariant.more c.loop-count-test.true c.if-flow-count.false
