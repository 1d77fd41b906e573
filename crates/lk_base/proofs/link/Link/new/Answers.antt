use Rattle.std.proofs.Common.{rules}
use Rattle.lk_base.proofs.link.Link.new.Goals as goal

pub invariant_of-result : goal.invariant_of-result
invariant_of-result c = search rules

pub returns-then-skews-clause-limits : goal.returns-then-skews-clause-limits
returns-then-skews-clause-limits c = search rules

pub returns-else-ranges-clause-limits : goal.returns-else-ranges-clause-limits
returns-else-ranges-clause-limits c = search rules
