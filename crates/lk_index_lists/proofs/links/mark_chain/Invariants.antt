use Rattle.std.proofs.Common.{length}
use Rattle.lk_index_lists.specs.Rings.{walk, after_of}
use Rattle.lk_index_lists.proofs.Runs.{IsMarking}
use Rattle.lk_index_lists.proofs.links.mark_chain.Given as goal

abbrev pub invariant-loop-node : goal.invariant-loop-node
invariant-loop-node l = IsMarking l.fn.nodes l.nodes l.count l.first l.node l.list

abbrev pub decreases-loop-node : goal.decreases-loop-node
decreases-loop-node l = length (walk (after_of l.fn.nodes) l.count l.count l.node)
