-- The reader stands for the samples that it has taken.
use Rattle.std.proofs.Common.{ℕ, List}
use Rattle.oob_flow.specs.Receiving.{StandsIn}
use Rattle.word_calls.proofs.samples.tell_rows.Given as goal

abbrev pub invariant-loop-number : goal.invariant-loop-number
invariant-loop-number l = (entries : ℕ) × (taken : List ℕ) × StandsIn l.reader entries taken
