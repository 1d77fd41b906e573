-- The first words were taken.
use Rattle.std.proofs.Common.{◌≤◌, ◌+◌, sym, ap, ◌∙◌, subst, List, length, drop, arith}
use Rattle.lk_base.specs.declared.word.Aligned.{Aligned}
use Rattle.rx_front.proofs.Waiting.{some_within, words_passed}
use Rattle.rx_front.proofs.block.Block.pass.Goals as goal

pub returns : goal.returns
returns c =
    let i = c.self.inside in
    words_passed i.first.group i.first.index c.args.count i.cursor i.words.words ∙ ap (λ (items : List Aligned). drop c.args.count items) c.self.view_is

pub overflow_add-self : goal.overflow_add-self
overflow_add-self c =
    let i = c.self.inside in
    let h = some_within i.first.group (i.first.index + i.cursor) c.args.count i.cursor i.words.words c.self.invariant.0 (subst (λ (items : List Aligned). c.args.count ≤ length items) (sym c.self.view_is) c.requires) in
    let k = c.self.invariant.1 in
    omega (arith, h, k)

pub invariant_of-self : goal.invariant_of-self
invariant_of-self c =
    let i = c.self.inside in
    (some_within i.first.group (i.first.index + i.cursor) c.args.count i.cursor i.words.words c.self.invariant.0 (subst (λ (items : List Aligned). c.args.count ≤ length items) (sym c.self.view_is) c.requires), c.self.invariant.1, c.self.invariant.2, c.self.invariant.3)
