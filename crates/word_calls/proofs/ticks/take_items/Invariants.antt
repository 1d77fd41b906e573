-- Each item that is given leaves less to give.
use Rattle.std.proofs.Common.{◌≡◌}
use Rattle.deskew.specs.Work.{work}
use Rattle.word_calls.proofs.ticks.take_items.Given as goal

abbrev pub invariant-loop-item : goal.invariant-loop-item
invariant-loop-item l = l.deskew.settings ≡ l.fn.deskew.settings

abbrev pub decreases-loop-item : goal.decreases-loop-item
decreases-loop-item l = work l.deskew
