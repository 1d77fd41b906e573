-- The headers of the first codes were looked at.
use Rattle.lane_lock.proofs.CodesTaken.{AreLegal}
use Rattle.lane_lock.proofs.places.are_legal.Given as goal

abbrev pub invariant-loop-place : goal.invariant-loop-place
invariant-loop-place l = AreLegal l.legal l.place l.codes
