use Rattle.std.proofs.Common.{◌+◌, sym, subst}
use Rattle.stream_model.specs.declared.rows.LocalRow.{LocalRow}
use Rattle.tx_words.specs.Driving.{LocalLater}
use Rattle.tx_words.proofs.Passing.{later_until}
use Rattle.tx_words.proofs.rows.before_local.Goals as goal

pub returns-then-passed-local-clause-later : goal.returns-then-passed-local-clause-later
returns-then-passed-local-clause-later c sorted later =
    subst (λ n. LocalLater c.args.local.now c.args.passed (c.args.slot + n)) (sym c.saturating_sub.ensures)
    (later_until (λ (row : LocalRow). row.slot) c.args.local.now c.args.passed c.args.slot _ sorted later)
