-- One more row is written.
use Rattle.std.proofs.Common.{◌∙◌, ap, length, List, ◌+◌, ◌-◌, arith}
use Rattle.lk_base.specs.declared.word.RxWord.{RxWord}
use Rattle.word_list.specs.Received.{spread}
use Rattle.deskew.specs.Spread.{column}
use Rattle.std.proofs.lemmas.List.{length-set}
use Rattle.deskew.proofs.Spread.{column_more, rows_left}
use Rattle.deskew.proofs.lane_fifo.LaneFifo.spread_each.Goals as goal

pub overflow_add-at : goal.overflow_add-at
overflow_add-at c =
    let few = c.len-len.ensures.few in
    let within = c.requires.within in
    let left = c.loop-row.invariant.2 in
    let step = c.requires.step in
    let more = rows_left c.args.step c.loop-row.at c.loop-row.row c.args.rows c.loop-row-test.true in
    omega (arith, few, within, left, step, more)

pub loop-row-preserved : goal.loop-row-preserved
loop-row-preserved c =
    let i = c.loop-row.invariant in
    let at = c.loop-row.at in
    let row = c.loop-row.row in (
      c.set.ensures.room ∙ i.0,
      ap length c.set.ensures.words ∙ length-set c.loop-row.block.words at c.word_at.result ∙ i.1,
      rows_left c.args.step at row c.args.rows c.loop-row-test.true ∙ i.2,
      ap (λ (words : List RxWord). spread c.args.step (at + c.args.step) (column (c.args.after + (row + 1)) (c.args.rows - (row + 1)) c.args.self.now) words) c.set.ensures.words
          ∙ column_more c.args.step at c.args.after row c.args.rows c.args.self.now c.loop-row.block.words c.word_at.result c.loop-row-test.true c.word_at.ensures ∙ i.3,
    )
