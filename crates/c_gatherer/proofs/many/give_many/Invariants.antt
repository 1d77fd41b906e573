use Rattle.c_gatherer.proofs.Nexts.{HaveGiven}
use Rattle.c_gatherer.proofs.many.give_many.Given as goal

-- the answers so far are written
abbrev pub invariant-loop-count : goal.invariant-loop-count
invariant-loop-count l = HaveGiven l.fn.gatherer l.gatherer l.fn.out l.out l.count
