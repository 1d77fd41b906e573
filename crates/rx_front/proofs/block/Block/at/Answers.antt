-- The place of the first word that waits.
use Rattle.std.proofs.Common.{◌+◌, sym, ap, ◌∙◌, length, drop, arith}
use Rattle.std.proofs.lemmas.List.{length-drop}
use Rattle.lk_base.specs.Positions.{words_from}
use Rattle.deskew.proofs.Rows.{words_count}
use Rattle.rx_front.specs.Waiting.{words_in}
use Rattle.rx_front.proofs.Waiting.{words_are}
use Rattle.rx_front.proofs.block.Block.at.Goals as goal

pub returns-clause-waiting : goal.returns-clause-waiting
returns-clause-waiting c =
    let i = c.self.inside in
    let group = i.first.group in
    let index = i.first.index + i.cursor in
    sym c.self.view_is ∙ ap (words_from group index) (sym (words_are group index (drop i.cursor i.words.words)) ∙ ap words_in c.self.view_is)

pub returns-clause-fits : goal.returns-clause-fits
returns-clause-fits c =
    let i = c.self.inside in
    let e = ap length c.self.view_is in
    let l = words_count i.first.group (i.first.index + i.cursor) (drop i.cursor i.words.words) in
    let d = length-drop i.cursor i.words.words in
    let a = c.self.invariant.0 in
    let b = c.self.invariant.1 in
    omega (arith, e, l, d, a, b)
