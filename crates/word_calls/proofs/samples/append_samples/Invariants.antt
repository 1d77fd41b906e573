-- The maker stands for some calendar.
use Rattle.std.proofs.Common.{ℕ, Bool, List}
use Rattle.oob_flow.specs.Sending.{StandsOut}
use Rattle.word_calls.proofs.samples.append_samples.Given as goal

abbrev pub invariant-loop-sample : goal.invariant-loop-sample
invariant-loop-sample l = (entries : List ℕ) × (states : ℕ → Bool) × (shown : List Bool) × (given : ℕ) × StandsOut l.out entries states shown given
