use Rattle.std.proofs.Common.{◌^◌, ◌<◌, ◌∙◌, length, ap, rules, arith}
use Rattle.word_list.proofs.Received.{many}
use Rattle.word_list.proofs.rx_block.RxBlock.len.Goals as goal

pub returns-clause-value : goal.returns-clause-value
returns-clause-value c = ap length c.as_slice.ensures.value ∙ many c.args.self.now c.self.inside.room c.self.inside.numbers.items c.self.inside.kinds.items c.self.view_is c.self.invariant.0

pub returns-clause-few : goal.returns-clause-few
returns-clause-few c =
    let few : length c.as_slice.result.now < 2 ^ 60 = search rules in
    omega (arith, few, ap length c.as_slice.ensures.value, many c.args.self.now c.self.inside.room c.self.inside.numbers.items c.self.inside.kinds.items c.self.view_is c.self.invariant.0)
