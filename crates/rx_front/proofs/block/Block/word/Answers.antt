-- The word that waits at a place.
use Rattle.std.proofs.Common.{◌+◌, ◌<◌, sym, ◌∙◌, subst, List, length, arith}
use Rattle.lk_base.specs.declared.word.Aligned.{Aligned}
use Rattle.rx_front.proofs.Waiting.{one_within, word_waits}
use Rattle.rx_front.proofs.block.Block.word.Goals as goal

pub get-requires : goal.get-requires
get-requires c =
    let i = c.self.inside in
    one_within i.first.group (i.first.index + i.cursor) c.args.i i.cursor i.words.words c.self.invariant.0 (subst (λ (items : List Aligned). c.args.i < length items) (sym c.self.view_is) c.requires)

pub overflow_add-self-inside : goal.overflow_add-self-inside
overflow_add-self-inside c =
    let i = c.self.inside in
    let h = one_within i.first.group (i.first.index + i.cursor) c.args.i i.cursor i.words.words c.self.invariant.0 (subst (λ (items : List Aligned). c.args.i < length items) (sym c.self.view_is) c.requires) in
    let k = c.self.invariant.1 in
    omega (arith, h, k)

pub returns : goal.returns
returns c =
    let i = c.self.inside in
    c.get.ensures ∙ word_waits i.first.group (i.first.index + i.cursor) c.args.i i.cursor i.words.words c.args.self.now c.self.view_is
