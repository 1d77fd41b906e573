use Rattle.std.proofs.Common.{arith}
use Rattle.lk_index_lists.proofs.Kept.{kept_apart}
use Rattle.lk_index_lists.proofs.Shown.{end_place, end_fits, before_end_place, after_end_place, whole_shown, run_shown, spliced_kept, spliced_shown}
use Rattle.lk_index_lists.proofs.lists.Lists.add_chain.Goals as goal

pub overflow_add-start : goal.overflow_add-start
overflow_add-start c = omega (arith, end_fits c.self.inside.nodes.items c.self.inside.count c.self.inside.links c.self.invariant c.args.self.now c.self.view_is c.args.from c.requires.from)

pub overflow_add-end : goal.overflow_add-end
overflow_add-end c = omega (arith, end_fits c.self.inside.nodes.items c.self.inside.count c.self.inside.links c.self.invariant c.args.self.now c.self.view_is c.args.to c.requires.to)

pub splice-requires-clause-whole : goal.splice-requires-clause-whole
splice-requires-clause-whole c = whole_shown c.self.inside.nodes.items c.self.inside.count c.self.inside.links c.self.invariant c.args.self.now c.self.view_is

pub splice-requires-clause-start : goal.splice-requires-clause-start
splice-requires-clause-start c = end_place c.self.inside.nodes.items c.self.inside.count c.self.inside.links c.self.invariant c.args.self.now c.self.view_is c.args.from c.requires.from

pub splice-requires-clause-end : goal.splice-requires-clause-end
splice-requires-clause-end c = end_place c.self.inside.nodes.items c.self.inside.count c.self.inside.links c.self.invariant c.args.self.now c.self.view_is c.args.to c.requires.to

pub splice-requires-clause-first : goal.splice-requires-clause-first
splice-requires-clause-first c = after_end_place c.self.inside.nodes.items c.self.inside.count c.self.inside.links c.self.invariant c.args.self.now c.self.view_is c.args.from c.requires.from

pub splice-requires-clause-last : goal.splice-requires-clause-last
splice-requires-clause-last c = before_end_place c.self.inside.nodes.items c.self.inside.count c.self.inside.links c.self.invariant c.args.self.now c.self.view_is c.args.from c.requires.from

pub splice-requires-clause-tail : goal.splice-requires-clause-tail
splice-requires-clause-tail c = before_end_place c.self.inside.nodes.items c.self.inside.count c.self.inside.links c.self.invariant c.args.self.now c.self.view_is c.args.to c.requires.to

pub splice-requires-clause-run : goal.splice-requires-clause-run
splice-requires-clause-run c = run_shown c.self.inside.nodes.items c.self.inside.count c.self.inside.links c.self.invariant c.args.self.now c.self.view_is c.args.from c.requires.from

pub invariant_of-self : goal.invariant_of-self
invariant_of-self c = spliced_kept c.self.inside.nodes.items c.self.inside.count c.self.inside.links c.self.invariant c.args.self.now c.self.view_is c.splice.new.nodes.items c.args.from c.args.to c.splice.ensures.spliced c.splice.ensures.long c.requires.from c.requires.to c.requires.apart c.requires.some

pub returns-clause-value : goal.returns-clause-value
returns-clause-value c = spliced_shown c.self.inside.nodes.items c.self.inside.count c.self.inside.links c.self.invariant c.args.self.now c.self.view_is c.splice.new.nodes.items c.args.from c.args.to c.splice.ensures.spliced c.splice.ensures.long c.requires.from c.requires.to c.requires.apart c.requires.some

pub returns-clause-apart : goal.returns-clause-apart
returns-clause-apart c = kept_apart c.splice.new.nodes.items c.self.inside.count (spliced_kept c.self.inside.nodes.items c.self.inside.count c.self.inside.links c.self.invariant c.args.self.now c.self.view_is c.splice.new.nodes.items c.args.from c.args.to c.splice.ensures.spliced c.splice.ensures.long c.requires.from c.requires.to c.requires.apart c.requires.some) c.self.inside.links
