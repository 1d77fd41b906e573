use Rattle.std.proofs.Common.{ap}
use Rattle.lk_index_lists.proofs.Fresh.{fresh}
use Rattle.lk_index_lists.proofs.Kept.{kept_apart}
use Rattle.lk_index_lists.proofs.lists.Lists.new.Goals as goal

pub invariant_of-result : goal.invariant_of-result
invariant_of-result c = (fresh c.in_ok-all.all.items c.args.nodes c.args.lists c.in_ok-all.ensures c.requires.nodes c.requires.lists).0

pub returns-clause-value : goal.returns-clause-value
returns-clause-value c = ap (λ ls. record { nodes = c.args.nodes; lists = ls; links = 0 }) (fresh c.in_ok-all.all.items c.args.nodes c.args.lists c.in_ok-all.ensures c.requires.nodes c.requires.lists).1

pub returns-clause-apart : goal.returns-clause-apart
returns-clause-apart c = kept_apart c.in_ok-all.all.items c.args.nodes (fresh c.in_ok-all.all.items c.args.nodes c.args.lists c.in_ok-all.ensures c.requires.nodes c.requires.lists).0 0
