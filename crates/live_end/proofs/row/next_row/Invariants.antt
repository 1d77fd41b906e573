-- The words so far.
use Rattle.std.proofs.Common.{◌≡◌, ◌++◌, List, length, take}
use Rattle.lk_base.specs.declared.word.Word.{Word}
use Rattle.live_stream.specs.LiveStream.{Given}
use Rattle.live_stream.specs.Gives.{Gives}
use Rattle.live_end.proofs.row.next_row.Given as goal

abbrev pub invariant-loop-i : goal.invariant-loop-i
invariant-loop-i l = (length l.row ≡ length l.fn.row) × ((g : Given) (w : List Word) → Gives l.fn.scheduler g w → Gives l.scheduler g (w ++ take l.i l.row))
