-- The rows that are left, from the next place on, lead to the block with all of them.
use Rattle.std.proofs.Common.{◌≡◌, ◌+◌, ◌*◌, length}
use Rattle.std.specs.Prelude.{◌-◌}
use Rattle.word_list.specs.Received.{spread}
use Rattle.deskew.specs.Spread.{column}
use Rattle.deskew.proofs.lane_fifo.LaneFifo.spread_each.Given as goal

abbrev pub invariant-loop-row : goal.invariant-loop-row
invariant-loop-row l =
    (l.block.room ≡ l.fn.block.room)
    × (length l.block.words ≡ length l.fn.block.words)
    × (l.at + (l.rows - l.row) * l.step ≡ l.from + l.rows * l.step)
    × (spread l.step l.at (column (l.after + l.row) (l.rows - l.row) l.self) l.block.words ≡ spread l.step l.from (column l.after l.rows l.self) l.fn.block.words)
