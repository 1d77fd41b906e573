use Rattle.std.proofs.Common.{arith}
use Rattle.lk_index_lists.proofs.Kept.{kept_apart}
use Rattle.lk_index_lists.proofs.Shown.{end_place, end_fits, before_end_place, node_place, neighbour_places}
use Rattle.lk_index_lists.proofs.Shifts.{first_back, shifted_kept, shifted_shown}
use Rattle.lk_index_lists.proofs.Values.{first_linked}
use Rattle.lk_index_lists.proofs.lists.Lists.shift_first.Goals as goal

pub overflow_add-start : goal.overflow_add-start
overflow_add-start c = omega (arith, end_fits c.self.inside.nodes.items c.self.inside.count c.self.inside.links c.self.invariant c.args.self.now c.self.view_is c.args.from c.requires.from)

pub overflow_add-end : goal.overflow_add-end
overflow_add-end c = omega (arith, end_fits c.self.inside.nodes.items c.self.inside.count c.self.inside.links c.self.invariant c.args.self.now c.self.view_is c.args.to c.requires.to)

pub shift-requires-clause-start : goal.shift-requires-clause-start
shift-requires-clause-start c = end_place c.self.inside.nodes.items c.self.inside.count c.self.inside.links c.self.invariant c.args.self.now c.self.view_is c.args.from c.requires.from

pub shift-requires-clause-end : goal.shift-requires-clause-end
shift-requires-clause-end c = end_place c.self.inside.nodes.items c.self.inside.count c.self.inside.links c.self.invariant c.args.self.now c.self.view_is c.args.to c.requires.to

pub shift-requires-clause-node : goal.shift-requires-clause-node
shift-requires-clause-node c = node_place c.self.inside.nodes.items c.self.inside.count c.self.inside.links c.self.invariant c.args.self.now c.self.view_is c.args.node c.requires.node

pub shift-requires-clause-first : goal.shift-requires-clause-first
shift-requires-clause-first c = first_back c.self.inside.nodes.items c.self.inside.count c.self.inside.links c.self.invariant c.args.self.now c.self.view_is c.args.from c.args.node c.requires.from c.requires.first

pub shift-requires-clause-next : goal.shift-requires-clause-next
shift-requires-clause-next c = (neighbour_places c.self.inside.nodes.items c.self.inside.count c.self.inside.links c.self.invariant c.args.self.now c.self.view_is c.args.node c.requires.node (first_linked c.args.self.now.lists c.args.from c.args.node c.requires.first)).1

pub shift-requires-clause-last : goal.shift-requires-clause-last
shift-requires-clause-last c = before_end_place c.self.inside.nodes.items c.self.inside.count c.self.inside.links c.self.invariant c.args.self.now c.self.view_is c.args.to c.requires.to

pub invariant_of-self : goal.invariant_of-self
invariant_of-self c = shifted_kept c.self.inside.nodes.items c.self.inside.count c.self.inside.links c.self.invariant c.args.self.now c.self.view_is c.shift.new.nodes.items c.args.from c.args.to c.args.node c.shift.ensures.shifted c.shift.ensures.long c.requires.from c.requires.to c.requires.apart c.requires.node c.requires.first

pub returns-clause-value : goal.returns-clause-value
returns-clause-value c = shifted_shown c.self.inside.nodes.items c.self.inside.count c.self.inside.links c.self.invariant c.args.self.now c.self.view_is c.shift.new.nodes.items c.args.from c.args.to c.args.node c.shift.ensures.shifted c.shift.ensures.long c.requires.from c.requires.to c.requires.apart c.requires.node c.requires.first

pub returns-clause-apart : goal.returns-clause-apart
returns-clause-apart c = kept_apart c.shift.new.nodes.items c.self.inside.count (shifted_kept c.self.inside.nodes.items c.self.inside.count c.self.inside.links c.self.invariant c.args.self.now c.self.view_is c.shift.new.nodes.items c.args.from c.args.to c.args.node c.shift.ensures.shifted c.shift.ensures.long c.requires.from c.requires.to c.requires.apart c.requires.node c.requires.first) c.self.inside.links
