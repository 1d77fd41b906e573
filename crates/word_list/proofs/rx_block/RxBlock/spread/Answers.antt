use Rattle.std.proofs.Common.{ap, length, arith}
use Rattle.word_list.proofs.Received.{many}
use Rattle.word_list.proofs.rx_block.RxBlock.spread.Goals as goal

pub spread_parts-requires-clause-within : goal.spread_parts-requires-clause-within
spread_parts-requires-clause-within c = omega (arith, ap length c.deref_mut.ensures.value, many c.args.self.now c.self.inside.room c.self.inside.numbers.items c.self.inside.kinds.items c.self.view_is c.self.invariant.0, c.requires.within)
