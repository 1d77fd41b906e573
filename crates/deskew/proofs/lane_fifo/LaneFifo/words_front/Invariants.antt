-- The words so far are put at once.
use Rattle.std.proofs.Common.{◌≡◌, ◌<◌, ◌^◌, length, take}
use Rattle.deskew.specs.Runs.{all_worded}
use Rattle.deskew.specs.Steps.{lane_after_all}
use Rattle.deskew.proofs.lane_fifo.LaneFifo.words_front.Given as goal

abbrev pub invariant-loop-place : goal.invariant-loop-place
invariant-loop-place l =
    (lane_after_all l.self (take l.place l.steps) ≡ all_worded (take l.place l.run) l.last l.sync l.self)
    × (l.last < 2 ^ 60)
    × (l.sync < 2 ^ 60)
    × (length l.run ≡ 64)
