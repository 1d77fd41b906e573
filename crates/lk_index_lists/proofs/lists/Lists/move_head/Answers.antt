use Rattle.std.proofs.Common.{◌∙◌, sym, ap}
use Rattle.lk_index_lists.specs.Held.{changed}
use Rattle.lk_index_lists.proofs.Values.{first_known}
use Rattle.lk_index_lists.proofs.lists.Lists.move_head.Goals as goal

pub shift_first-requires-clause-node : goal.shift_first-requires-clause-node
shift_first-requires-clause-node c = first_known c.args.self.now c.in-Some.ensures.apart c.args.from c.in-Some.node (sym c.in-Some.ensures.value)

pub shift_first-requires-clause-first : goal.shift_first-requires-clause-first
shift_first-requires-clause-first c = sym c.in-Some.ensures.value

pub returns-in-Some-clause-value : goal.returns-in-Some-clause-value
returns-in-Some-clause-value c = c.count_change-in-Some.ensures.value ∙ ap changed (c.count_change.ensures.value ∙ ap changed c.shift_first.ensures.value)

pub returns-in-Some-clause-node : goal.returns-in-Some-clause-node
returns-in-Some-clause-node c = c.in-Some.ensures.value

pub returns-in-None-clause-apart : goal.returns-in-None-clause-apart
returns-in-None-clause-apart c = c.head.ensures.apart
