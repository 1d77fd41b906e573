use Rattle.std.proofs.Common.{◌^◌, ◌<◌, ◌∙◌, length, ap, rules, arith}
use Rattle.word_list.proofs.Lists.{long}
use Rattle.word_list.proofs.list.WordList.len.Goals as goal

pub returns-clause-value : goal.returns-clause-value
returns-clause-value c =
    ap length c.as_slice.ensures.value ∙ long c.self.inside.numbers.items c.self.inside.controls.items c.args.self.now c.self.view_is c.self.invariant

pub returns-clause-few : goal.returns-clause-few
returns-clause-few c =
    let few : length c.as_slice.result.now < 2 ^ 60 = search rules in
    omega (arith, few, ap length c.as_slice.ensures.value, long c.self.inside.numbers.items c.self.inside.controls.items c.args.self.now c.self.view_is c.self.invariant)
