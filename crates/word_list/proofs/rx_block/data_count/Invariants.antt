-- The data words so far, and those that follow, are all.
use Rattle.std.proofs.Common.{◌≡◌, ◌+◌, drop}
use Rattle.word_list.specs.Received.{data_count}
use Rattle.word_list.proofs.rx_block.data_count.Given as goal

abbrev pub invariant-loop-place : goal.invariant-loop-place
invariant-loop-place l = l.place + data_count (drop l.place l.kinds) ≡ l.from + data_count (drop l.from l.kinds)
