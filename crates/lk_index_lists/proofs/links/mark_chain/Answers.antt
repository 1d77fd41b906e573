use Rattle.std.proofs.Common.{refl, sym, subst}
use Rattle.lk_index_lists.specs.Rings.{Present, Absent}
use Rattle.lk_index_lists.proofs.Runs.{marking_none, marking_more, marking_less, marking_all}
use Rattle.lk_index_lists.proofs.links.mark_chain.Goals as goal

pub loop-node-init : goal.loop-node-init
loop-node-init c = marking_none c.args.nodes.now c.args.count c.args.first c.args.list c.requires.run

pub loop-node-smaller : goal.loop-node-smaller
loop-node-smaller c = marking_less c.args.nodes.now c.loop-node.nodes c.mark.new.nodes c.args.count c.args.first c.loop-node.node _ c.args.list c.loop-node.invariant c.loop-node-test.true c.mark.ensures.after c.mark.ensures.before c.mark.ensures.owner c.mark.ensures.owner_else c.mark.ensures.long refl

pub loop-node-preserved : goal.loop-node-preserved
loop-node-preserved c = marking_more c.args.nodes.now c.loop-node.nodes c.mark.new.nodes c.args.count c.args.first c.loop-node.node _ c.args.list c.loop-node.invariant c.loop-node-test.true c.mark.ensures.after c.mark.ensures.before c.mark.ensures.owner c.mark.ensures.owner_else c.mark.ensures.long refl

pub returns-clause-inside : goal.returns-clause-inside
returns-clause-inside c = λ k p. c.loop-node.invariant.inside k (subst (Present k) (sym (marking_all c.args.nodes.now c.loop-node.nodes c.args.count c.args.first c.loop-node.node c.args.list c.loop-node.invariant c.loop-node-test.false)) p)

pub returns-clause-outside : goal.returns-clause-outside
returns-clause-outside c = λ k p. c.loop-node.invariant.outside k (subst (Absent k) (sym (marking_all c.args.nodes.now c.loop-node.nodes c.args.count c.args.first c.loop-node.node c.args.list c.loop-node.invariant c.loop-node-test.false)) p)
