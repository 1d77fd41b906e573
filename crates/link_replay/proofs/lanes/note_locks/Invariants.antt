-- The locks of the first lanes came.
use Rattle.rx_front.specs.Locks.{declared_at}
use Rattle.link_replay.proofs.Locks.{IsNoted}
use Rattle.link_replay.proofs.Stepping.{FirstMade}
use Rattle.link_replay.proofs.lanes.note_locks.Given as goal

abbrev pub invariant-loop-i : goal.invariant-loop-i
invariant-loop-i l = FirstMade (IsNoted l.link.metaframe l.made (λ k. declared_at k l.front)) l.i l.fn.lanes l.lanes
