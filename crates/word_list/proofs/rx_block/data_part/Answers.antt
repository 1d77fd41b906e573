use Rattle.std.proofs.Common.{◌∙◌, ◌≡◌, ◌+◌, ◌-◌, ap, take, drop, arith, ℕ}
use Rattle.word_list.proofs.Received.{data_from}
use Rattle.word_list.proofs.rx_block.data_part.Goals as goal

pub returns : goal.returns
returns c =
    let n = c.data_count-count.result in
    let from = c.args.from in
    let e : from + n - from ≡ n = omega arith in
    ap (λ (m : ℕ). take m (drop from c.args.numbers.now)) e ∙ data_from c.args.numbers.now c.args.kinds.now from n c.requires.kinds c.data_count-count.ensures.count
