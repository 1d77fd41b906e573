-- A state is given, or refused.
use Rattle.std.specs.Prelude.{◌==◌, not}
use Rattle.std.proofs.Common.{ap, subst}
use Rattle.live_end.specs.Calls.{IsLocal}
use Rattle.c_transmitter.specs.declared.bit_transmitter.BitTransmitter.{BitTransmitter}
use Rattle.c_parts.proofs.Holding.{on_held}
use Rattle.c_transmitter.proofs.calls.local.Goals as goal

pub returns : goal.returns
returns c =
    let s = c.in-Some.there.value in
    let u = c.local-answer.new.self in
    let told = subst (λ (v : BitTransmitter). IsLocal v.end u c.args.channel (not (c.args.on == 0)) c.local-answer.result) c.deref_mut.ensures.value c.local-answer.ensures in
    on_held _ _ _ _ s (record { end = u; parts = c.deref_mut.result.now.parts }) c.in-Some.ensures.some c.put.ensures
    (c.local-answer.result, told, c.local_ended.ensures, ap (λ (v : BitTransmitter). v.parts) c.deref_mut.ensures.value)
