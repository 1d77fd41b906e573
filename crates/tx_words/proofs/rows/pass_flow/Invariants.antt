use Rattle.std.proofs.Common.{length, ◌-◌}
use Rattle.tx_words.proofs.Passing.{PassedFlow}
use Rattle.tx_words.proofs.rows.pass_flow.Given as goal

abbrev pub invariant-loop-count : goal.invariant-loop-count
invariant-loop-count l = PassedFlow l.initial.scheduler l.scheduler l.flow l.passed l.count l.slot

abbrev pub decreases-loop-count : goal.decreases-loop-count
decreases-loop-count l = length l.flow - l.count
