use Rattle.std.proofs.Common.{◌∙◌, ◌++◌, ap, map, Bool, List, ℕ}
use Rattle.lk_base.specs.Words.{is_control, payload}
use Rattle.word_list.proofs.Lists.{extended}
use Rattle.word_list.proofs.list.WordList.extend.Goals as goal

pub returns-clause-ok : goal.returns-clause-ok
returns-clause-ok c =
    let more = c.args.words.now in
    extended c.self.inside.numbers.items c.push_all.new.numbers.items c.self.inside.controls.items c.push_all.new.controls.items c.args.self.now more c.self.view_is c.self.invariant
    (c.push_all.ensures.numbers ∙ ap (λ (xs : List ℕ). xs ++ map payload more) c.in_ok-reserve.ensures.items)
    (c.push_all.ensures.controls ∙ ap (λ (ms : List Bool). ms ++ map is_control more) c.in_ok-reserve-2.ensures.items)
