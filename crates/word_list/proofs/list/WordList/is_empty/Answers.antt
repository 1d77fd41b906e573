use Rattle.std.proofs.Common.{ℕ, ◌==◌, ◌∙◌, ap}
use Rattle.word_list.proofs.Lists.{long}
use Rattle.word_list.proofs.list.WordList.is_empty.Goals as goal

pub returns : goal.returns
returns c =
    c.is_empty.ensures ∙ ap (λ (n : ℕ). n == 0) (c.self.inside.numbers.ok.0 ∙ long c.self.inside.numbers.items c.self.inside.controls.items c.args.self.now c.self.view_is c.self.invariant)
