-- The lanes that are left lead to all rows.
use Rattle.std.proofs.Common.{◌≡◌, ◌*◌, drop, length}
use Rattle.deskew.specs.Blocks.{rows_at}
use Rattle.deskew.specs.Spread.{spread_all}
use Rattle.deskew.proofs.lanes.push_rows.Given as goal

abbrev pub invariant-loop-i : goal.invariant-loop-i
invariant-loop-i l =
    (l.block.room ≡ l.fn.block.room)
    × (length l.block.words ≡ l.rows * length l.lanes)
    × (spread_all (length l.lanes) l.i l.after l.rows (drop l.i l.lanes) l.block.words ≡ rows_at l.after l.rows l.lanes)
