use Rattle.std.proofs.Common.{ap, length, arith}
use Rattle.word_list.proofs.Received.{many}
use Rattle.word_list.proofs.rx_block.RxBlock.set.Goals as goal

pub set_part-requires-clause-there : goal.set_part-requires-clause-there
set_part-requires-clause-there c = omega (arith, ap length c.deref_mut.ensures.value, many c.args.self.now c.self.inside.room c.self.inside.numbers.items c.self.inside.kinds.items c.self.view_is c.self.invariant.0, c.requires)
