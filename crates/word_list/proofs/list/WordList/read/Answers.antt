use Rattle.std.proofs.Common.{arith}
use Rattle.word_list.proofs.Lists.{long}
use Rattle.word_list.proofs.list.WordList.read.Goals as goal

pub read_parts-requires-clause-there : goal.read_parts-requires-clause-there
read_parts-requires-clause-there c =
    let many = long c.self.inside.numbers.items c.self.inside.controls.items c.args.self.now c.self.view_is c.self.invariant in
    omega (arith, many, c.deref.ensures.value, c.requires)
