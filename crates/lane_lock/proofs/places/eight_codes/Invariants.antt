-- The first codes were read.
use Rattle.lk_base.specs.Checksum.{bits_of_bytes}
use Rattle.lane_lock.proofs.CodesTaken.{AreFirst}
use Rattle.lane_lock.proofs.places.eight_codes.Given as goal

abbrev pub invariant-loop-place : goal.invariant-loop-place
invariant-loop-place l = AreFirst l.codes l.place (bits_of_bytes l.bytes)
