use Rattle.std.proofs.Common.{arith}
use Rattle.lk_index_lists.proofs.Shifts.{shifted_by}
use Rattle.lk_index_lists.proofs.links.shift_in.Goals as goal

pub returns-clause-shifted : goal.returns-clause-shifted
returns-clause-shifted c =
    shifted_by c.args.nodes.now c.join.new.nodes c.join-2.new.nodes c.join-3.new.nodes c.mark.new.nodes c.args.start c.args.end c.args.list c.args.node (omega (arith, c.requires.node, c.join.ensures.long)) c.requires.first
    c.join.ensures.joined c.join.ensures.owner c.join.ensures.long c.join-2.ensures.joined c.join-2.ensures.owner c.join-3.ensures.joined c.join-3.ensures.owner
    c.mark.ensures.after c.mark.ensures.before c.mark.ensures.owner c.mark.ensures.owner_else
