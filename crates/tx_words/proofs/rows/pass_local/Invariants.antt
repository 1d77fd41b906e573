use Rattle.std.proofs.Common.{length, ◌-◌}
use Rattle.tx_words.proofs.Passing.{PassedLocal}
use Rattle.tx_words.proofs.rows.pass_local.Given as goal

abbrev pub invariant-loop-count : goal.invariant-loop-count
invariant-loop-count l = PassedLocal l.initial.scheduler l.scheduler l.local l.passed l.count l.slot

abbrev pub decreases-loop-count : goal.decreases-loop-count
decreases-loop-count l = length l.local - l.count
