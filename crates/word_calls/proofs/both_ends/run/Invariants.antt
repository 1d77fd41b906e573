use Rattle.duplex.specs.Duplexes.{IsGiven}
use Rattle.word_calls.specs.Calls.{IsRunning}
use Rattle.word_calls.proofs.both_ends.run.Given as goal

abbrev pub invariant-loop-slot : goal.invariant-loop-slot
invariant-loop-slot l = record { running : IsRunning l.duplex l._slot; given : IsGiven l.duplex }
