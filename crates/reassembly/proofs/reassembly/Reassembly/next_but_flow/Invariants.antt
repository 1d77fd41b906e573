-- Only flow words were given up.
use Rattle.std.proofs.Common.{length}
use Rattle.reassembly.proofs.Passed.{Passed}
use Rattle.reassembly.proofs.reassembly.Reassembly.next_but_flow.Given as goal

abbrev pub invariant-loop-out : goal.invariant-loop-out
invariant-loop-out l = Passed l.fn.self l.self

abbrev pub decreases-loop-out : goal.decreases-loop-out
decreases-loop-out l = length l.self.waiting
