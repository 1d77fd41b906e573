use Rattle.std.proofs.Common.{◌∙◌, ◌++◌, ap, false, length, replicate, Bool, List, ℕ}
use Rattle.word_list.proofs.Lists.{extended_by_data}
use Rattle.word_list.proofs.list.WordList.extend_data.Goals as goal

pub returns-clause-ok : goal.returns-clause-ok
returns-clause-ok c =
    let more = c.args.numbers.now in
    extended_by_data c.self.inside.numbers.items c.push_data.new.numbers.items c.self.inside.controls.items c.push_data.new.controls.items c.args.self.now more c.self.view_is c.self.invariant
    (c.push_data.ensures.numbers ∙ ap (λ (xs : List ℕ). xs ++ more) c.in_ok-reserve.ensures.items)
    (c.push_data.ensures.controls ∙ ap (λ (ms : List Bool). ms ++ replicate (length more) false) c.in_ok-reserve-2.ensures.items)
