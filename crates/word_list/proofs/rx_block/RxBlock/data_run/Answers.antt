use Rattle.std.proofs.Common.{ap, length, arith}
use Rattle.word_list.proofs.Received.{many}
use Rattle.word_list.proofs.rx_block.RxBlock.data_run.Goals as goal

pub data_part-requires-clause-from : goal.data_part-requires-clause-from
data_part-requires-clause-from c = omega (arith, ap length c.deref.ensures.value, many c.args.self.now c.self.inside.room c.self.inside.numbers.items c.self.inside.kinds.items c.self.view_is c.self.invariant.0, c.requires)
