use Rattle.std.proofs.Common.{◌+◌, sym, subst}
use Rattle.stream_model.specs.declared.rows.FlowRow.{FlowRow}
use Rattle.tx_words.specs.Driving.{FlowLater}
use Rattle.tx_words.proofs.Passing.{later_until}
use Rattle.tx_words.proofs.rows.before_flow.Goals as goal

pub returns-then-passed-flow-clause-later : goal.returns-then-passed-flow-clause-later
returns-then-passed-flow-clause-later c sorted later =
    subst (λ n. FlowLater c.args.flow.now c.args.passed (c.args.slot + n)) (sym c.saturating_sub.ensures)
    (later_until (λ (row : FlowRow). row.slot) c.args.flow.now c.args.passed c.args.slot _ sorted later)
