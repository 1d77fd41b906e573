-- The number of the first bytes.
use Rattle.lane_events.proofs.Pieces.{IsNumber}
use Rattle.lane_events.proofs.windows.number_of.Given as goal

abbrev pub invariant-loop-byte : goal.invariant-loop-byte
invariant-loop-byte l = IsNumber l.piece l.byte-index l.bits
