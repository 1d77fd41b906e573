-- The word is heard with the checksum of itself alone.
use Rattle.std.proofs.Common.{ap, subst}
use Rattle.duplex_model.specs.DuplexRun.{heard_word}
use Rattle.live_end.specs.Calls.{IsFlow}
use Rattle.c_transmitter.specs.declared.bit_transmitter.BitTransmitter.{BitTransmitter}
use Rattle.c_parts.proofs.Holding.{on_held}
use Rattle.c_transmitter.proofs.calls.flow.Goals as goal

pub returns : goal.returns
returns c =
    let s = c.in-Some.there.value in
    let u = c.hear-answer.new.self in
    let told = subst (λ (v : BitTransmitter). IsFlow v.end u (heard_word c.args.word) c.hear-answer.result) c.deref_mut.ensures.value c.hear-answer.ensures in
    on_held _ _ _ _ s (record { end = u; parts = c.deref_mut.result.now.parts }) c.in-Some.ensures.some c.put.ensures
    (c.hear-answer.result, told, c.row_ended.ensures, ap (λ (v : BitTransmitter). v.parts) c.deref_mut.ensures.value)
