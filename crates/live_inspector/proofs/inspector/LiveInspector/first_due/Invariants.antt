use Rattle.live_inspector.specs.Calls.{NoneDueBelow}
use Rattle.live_inspector.proofs.inspector.LiveInspector.first_due.Given as goal

-- nothing is due on the lanes so far
abbrev pub invariant-loop-at : goal.invariant-loop-at
invariant-loop-at l = NoneDueBelow l.at l.self
