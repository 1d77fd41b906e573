-- The data words that wait from a place on.
use Rattle.std.proofs.Common.{◌+◌, ◌≤◌, sym, ap, ◌∙◌, subst, List, length, arith}
use Rattle.lk_base.specs.declared.word.Aligned.{Aligned}
use Rattle.lk_base.specs.declared.word.RxWord.{RxWord}
use Rattle.word_list.specs.Received.{data_front}
use Rattle.rx_front.proofs.Waiting.{rest_waits, some_within}
use Rattle.rx_front.proofs.block.Block.data_run.Goals as goal

pub data_run-requires : goal.data_run-requires
data_run-requires c =
    let i = c.self.inside in
    some_within i.first.group (i.first.index + i.cursor) c.args.from i.cursor i.words.words c.self.invariant.0 (subst (λ (items : List Aligned). c.args.from ≤ length items) (sym c.self.view_is) c.requires)

pub overflow_add-self-inside : goal.overflow_add-self-inside
overflow_add-self-inside c =
    let i = c.self.inside in
    let h = some_within i.first.group (i.first.index + i.cursor) c.args.from i.cursor i.words.words c.self.invariant.0 (subst (λ (items : List Aligned). c.args.from ≤ length items) (sym c.self.view_is) c.requires) in
    let k = c.self.invariant.1 in
    omega (arith, h, k)

pub returns : goal.returns
returns c =
    let i = c.self.inside in
    c.data_run.ensures ∙ ap (λ (ws : List RxWord). data_front ws) (rest_waits i.first.group (i.first.index + i.cursor) c.args.from i.cursor i.words.words c.args.self.now c.self.view_is)
