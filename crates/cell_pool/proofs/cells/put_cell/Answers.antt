use Rattle.std.proofs.Common.{arith, refl}
use Rattle.cell_pool.proofs.Copies.{word_more}
use Rattle.cell_pool.proofs.cells.put_cell.Goals as goal

pub loop-k-preserved : goal.loop-k-preserved
loop-k-preserved c = word_more c.args.words.now c.loop-k.bytes c.put_word.new.bytes c.loop-k.k _ (omega (arith, c.requires.room, c.loop-k.auto.bytes)) refl c.put_word.ensures.put c.loop-k.invariant

pub returns-clause-put : goal.returns-clause-put
returns-clause-put c = λ i h. c.loop-k.invariant i (omega (arith, c.loop-k-test.false))
