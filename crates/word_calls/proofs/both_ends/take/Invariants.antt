use Rattle.std.proofs.Common.{ℕ}
use Rattle.duplex.specs.Duplexes.{waiting_of}
use Rattle.word_calls.specs.Calls.{IsRunning}
use Rattle.word_calls.proofs.both_ends.take.Given as goal

abbrev pub invariant-loop-got : goal.invariant-loop-got
invariant-loop-got l = (n : ℕ) → IsRunning l.fn.duplex n → IsRunning l.duplex n

abbrev pub decreases-loop-got : goal.decreases-loop-got
decreases-loop-got l = waiting_of l.duplex
