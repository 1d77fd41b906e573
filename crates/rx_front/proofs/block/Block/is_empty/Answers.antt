-- Whether a word waits.
use Rattle.std.proofs.Common.{ℕ, ◌+◌, ◌==◌, ◌∙◌, ap, List, length}
use Rattle.lk_base.specs.declared.word.Aligned.{Aligned}
use Rattle.rx_front.proofs.Waiting.{none_waits_where}
use Rattle.rx_front.proofs.block.Block.is_empty.Goals as goal

pub returns : goal.returns
returns c =
    let i = c.self.inside in
    ap (λ (n : ℕ). i.cursor == n) c.len.ensures.value ∙ none_waits_where i.first.group (i.first.index + i.cursor) i.cursor i.words.words c.self.invariant.0 ∙ ap (λ (items : List Aligned). length items == 0) c.self.view_is
