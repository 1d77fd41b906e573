use Rattle.tx_end.specs.Sending.{Sending, Sends}
use Rattle.word_calls.proofs.lane_bytes.bytes_of.Given as goal

-- the transmitter stands for what it gave so far
abbrev pub invariant-loop-step : goal.invariant-loop-step
invariant-loop-step l = (a : Sending) × Sends l.transmitter a
