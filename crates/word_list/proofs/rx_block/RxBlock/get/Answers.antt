use Rattle.std.proofs.Common.{◌∙◌, arith}
use Rattle.word_list.proofs.Received.{many, rx_at_place}
use Rattle.word_list.proofs.rx_block.RxBlock.get.Goals as goal

pub index-requires : goal.index-requires
index-requires c = omega (arith, c.self.inside.numbers.ok.0, many c.args.self.now c.self.inside.room c.self.inside.numbers.items c.self.inside.kinds.items c.self.view_is c.self.invariant.0, c.requires)

pub index-requires-2 : goal.index-requires-2
index-requires-2 c = omega (arith, c.self.inside.kinds.ok.0, c.self.invariant.0, many c.args.self.now c.self.inside.room c.self.inside.numbers.items c.self.inside.kinds.items c.self.view_is c.self.invariant.0, c.requires)

pub returns : goal.returns
returns c =
    c.rx_word_of.ensures
    ∙ rx_at_place c.args.self.now c.self.inside.room c.self.inside.numbers.items c.self.inside.kinds.items c.args.i c.index.result.now c.index-2.result.now c.self.view_is c.self.invariant.0 c.requires c.index.ensures c.index-2.ensures
