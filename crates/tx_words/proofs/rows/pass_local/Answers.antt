use Rattle.tx_words.proofs.Passing.{no_local, one_local, later_behind}
use Rattle.stream_model.specs.declared.rows.LocalRow.{LocalRow}
use Rattle.burst_scheduler.specs.Asked.{having_local}
use Rattle.std.proofs.Common.{take, false}
use Rattle.burst_scheduler.proofs.Calls.{has_words}
use Rattle.tx_words.proofs.rows.pass_local.Goals as goal

pub loop-count-init : goal.loop-count-init
loop-count-init c = no_local c.args.scheduler.now c.args.local.now c.args.passed c.args.slot c.requires.within

pub local-requires : goal.local-requires
local-requires c =
    let (a, g, rows, at) = c.requires.gives in
    record { gives = (having_local a (take c.loop-count.count c.args.local.now), has_words (c.loop-count.invariant.gives a g rows at)) }

pub loop-count-preserved : goal.loop-count-preserved
loop-count-preserved c = one_local c.args.scheduler.now c.loop-count.scheduler c.local.new.self c.args.local.now c.args.passed c.loop-count.count c.args.slot (record { slot = 0; channel = 0; on = false }) c.loop-count.invariant c.loop-count-test.true c.if-local-count.true c.local.ensures.gives

pub returns-else-local-count-clause-later : goal.returns-else-local-count-clause-later
returns-else-local-count-clause-later c = λ sorted later.
    later_behind (λ (row : LocalRow). row.slot) c.args.local.now c.args.passed c.loop-count.count c.args.slot (record { slot = 0; channel = 0; on = false }) sorted later c.loop-count.invariant.more c.loop-count-test.true c.if-local-count.false
