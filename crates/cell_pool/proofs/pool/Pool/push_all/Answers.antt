-- The words that one cell has room for are added.
use Rattle.std.proofs.Common.{◌≡◌, drop}
use Rattle.std.proofs.lemmas.List.{length-drop}
use Rattle.cell_pool.proofs.Filled.{filling_more, filling_room, filling_whole}
use Rattle.cell_pool.proofs.pool.Pool.push_all.Goals as goal

pub fill_cell-done-requires-clause-whole : goal.fill_cell-done-requires-clause-whole
fill_cell-done-requires-clause-whole c = filling_whole c.args.self.now c.loop-done.self c.args.place c.args.words.now c.loop-done.done c.requires.place c.loop-done.invariant c.requires.whole

pub fill_cell-done-requires-clause-room : goal.fill_cell-done-requires-clause-room
fill_cell-done-requires-clause-room c = filling_room c.args.self.now c.loop-done.self c.args.place c.args.words.now c.loop-done.done c.requires.place c.loop-done.invariant c.requires.room c.loop-done-test.true

pub loop-done-preserved : goal.loop-done-preserved
loop-done-preserved c =
    let rest : c.tail.result.now ≡ drop c.loop-done.done c.args.words.now = c.tail.ensures in
    filling_more c.args.self.now c.loop-done.self c.args.place c.args.words.now c.loop-done.done c.requires.place c.loop-done.invariant c.fill_cell-done.new.self c.fill_cell-done.result
    (rw rest at c.fill_cell-done.ensures.within)
    (length-drop c.loop-done.done c.args.words.now)
    (rw rest at c.fill_cell-done.ensures.state)
