-- Each position whose bit is 0 missed within the words so far.
use Rattle.std.proofs.Common.{◌≤◌, ◌-◌}
use Rattle.lk_base.specs.Checksum.{bits_of_bytes}
use Rattle.lane_lock.proofs.Misses.{MissUnless}
use Rattle.lane_lock.proofs.search.words_to_miss.Given as goal

abbrev pub decreases-loop-legal : goal.decreases-loop-legal
decreases-loop-legal l = 24 - l.words

abbrev pub invariant-loop-legal : goal.invariant-loop-legal
invariant-loop-legal l = record { few : l.words ≤ 24; missed : MissUnless (bits_of_bytes l.bytes) l.words l.legal }
