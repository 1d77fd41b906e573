-- The words from the first that waits on.
use Rattle.std.proofs.Common.{◌+◌, ap, length, drop, arith}
use Rattle.std.proofs.lemmas.List.{length-drop}
use Rattle.deskew.proofs.Rows.{words_count}
use Rattle.rx_front.proofs.block.Block.len.Goals as goal

pub returns-clause-count : goal.returns-clause-count
returns-clause-count c =
    let i = c.self.inside in
    let e = ap length c.self.view_is in
    let l = words_count i.first.group (i.first.index + i.cursor) (drop i.cursor i.words.words) in
    let d = length-drop i.cursor i.words.words in
    let n = c.len.ensures.value in
    omega (arith, e, l, d, n)

pub returns-clause-most : goal.returns-clause-most
returns-clause-most c = (let a = c.self.invariant.1 in let n = c.len.ensures.value in omega (arith, a, n))
