use Rattle.std.proofs.Common.{◌∙◌, arith}
use Rattle.word_list.proofs.Lists.{long, at_place}
use Rattle.word_list.proofs.list.WordList.get.Goals as goal

pub index-requires : goal.index-requires
index-requires c =
    omega (arith, c.self.inside.numbers.ok.0, long c.self.inside.numbers.items c.self.inside.controls.items c.args.self.now c.self.view_is c.self.invariant)

pub index-requires-2 : goal.index-requires-2
index-requires-2 c =
    omega (arith, c.self.inside.controls.ok.0, c.self.invariant, long c.self.inside.numbers.items c.self.inside.controls.items c.args.self.now c.self.view_is c.self.invariant)

pub returns : goal.returns
returns c =
    c.word_of.ensures
    ∙ at_place c.self.inside.numbers.items c.self.inside.controls.items c.args.self.now c.args.i c.index.result.now c.index-2.result.now c.self.view_is c.self.invariant c.requires c.index.ensures c.index-2.ensures
