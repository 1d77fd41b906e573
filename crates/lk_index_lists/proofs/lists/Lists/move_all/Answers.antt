use Rattle.std.proofs.Common.{◌∙◌, sym}
use Rattle.lk_index_lists.proofs.Values.{given_one, no_next}
use Rattle.lk_index_lists.proofs.lists.Lists.move_all.Goals as goal

pub returns-then-is_none-clause-value : goal.returns-then-is_none-clause-value
returns-then-is_none-clause-value c =
    c.shift_first.ensures.value
    ∙ given_one c.args.self.now c.args.from c.args.to c.args.first c.requires.apart c.requires.first (sym (c.next.ensures c.args.from 0 c.requires.first) ∙ no_next c.next.result c.is_none.result c.is_none.ensures c.if-is_none.true)
