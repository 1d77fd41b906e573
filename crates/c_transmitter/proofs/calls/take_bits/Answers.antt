-- Bits are taken of a lane that is there.
use Rattle.std.proofs.Common.{subst}
use Rattle.c_transmitter.specs.Held.{TakesCompleted}
use Rattle.c_transmitter.specs.declared.bit_transmitter.BitTransmitter.{BitTransmitter}
use Rattle.c_parts.proofs.Holding.{on_held}
use Rattle.c_transmitter.proofs.calls.take_bits.Goals as goal

pub returns : goal.returns
returns c =
    let s = c.in-Some.there.value in
    let t = c.take_completed-result.new.transmitter in
    let taken =
    subst (λ (v : BitTransmitter). TakesCompleted v t c.args.lane c.args.count c.take_completed-result.result c.take_completed-result.new.bits c.take_completed-result.new.taken) c.deref_mut.ensures.value
    c.take_completed-result.ensures in
    on_held _ _ _ _ s t c.in-Some.ensures.some c.put.ensures taken
