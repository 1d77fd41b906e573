use Rattle.std.proofs.Common.{◌∙◌, ap, sym, refl, length}
use Rattle.std.proofs.lemmas.Result.{err_from_is_err_and}
use Rattle.duplex_commands.proofs.Steps.{gives_one, one_sized, packet_came, packet_stopped, none_came}
use Rattle.duplex_commands.proofs.slots.take_packets.Goals as goal

pub loop-got-init : goal.loop-got-init
loop-got-init g c = record { same_faults = refl; at = λ b settings ends slots at. at }

pub take_packet-requires-clause-tells : goal.take_packet-requires-clause-tells
take_packet-requires-clause-tells g c =
    let (b, settings, ends, slots, at) = c.requires.at in
    let now = c.loop-got.invariant.at b settings ends slots at in
    let one = gives_one _ b.setting settings slots now.from_a now.from_b now.got_a now.got_b _ _ _ (c.in-Some.ensures.some b.setting settings slots now.from_a now.from_b now.got_a now.got_b now.has) in
    one.length_is ∙ ap length (sym one.lent)

pub take_packet-requires-clause-sized : goal.take_packet-requires-clause-sized
take_packet-requires-clause-sized g c =
    let (b, settings, ends, slots, at) = c.requires.at in
    let now = c.loop-got.invariant.at b settings ends slots at in
    let one = gives_one _ b.setting settings slots now.from_a now.from_b now.got_a now.got_b _ _ _ (c.in-Some.ensures.some b.setting settings slots now.from_a now.from_b now.got_a now.got_b now.has) in
    one_sized _ b.setting settings slots now.from_a now.from_b now.got_a now.got_b _ _ _ now.fits one

pub take_packet-requires-clause-kept : goal.take_packet-requires-clause-kept
take_packet-requires-clause-kept g c =
    let (b, settings, ends, slots, at) = c.requires.at in
    let now = c.loop-got.invariant.at b settings ends slots at in
    (b, now.got_a, now.got_b, now.kept)

pub returns-in_err-take_packet-clause-takes : goal.returns-in_err-take_packet-clause-takes
returns-in_err-take_packet-clause-takes g c b settings ends slots at =
    let now = c.loop-got.invariant.at b settings ends slots at in
    let one = gives_one _ b.setting settings slots now.from_a now.from_b now.got_a now.got_b _ _ _ (c.in-Some.ensures.some b.setting settings slots now.from_a now.from_b now.got_a now.got_b now.has) in
    let p = err_from_is_err_and c.from_residual.result c.from_residual.ensures.1 in
    rw (p.1, p.2) (packet_stopped b settings ends slots _ _ _ now _ c.next.ensures.rest _ _ _ one c.in_err-take_packet.field-0.0 _ (c.in_err-take_packet.ensures.keeps b now.got_a now.got_b one.packet.first one.packet.last now.kept))

pub loop-got-preserved : goal.loop-got-preserved
loop-got-preserved g c = record {
  same_faults = c.in_ok-take_packet.ensures.cause ∙ c.loop-got.invariant.same_faults;
  at = λ b settings ends slots at.
      let now = c.loop-got.invariant.at b settings ends slots at in
      let one = gives_one _ b.setting settings slots now.from_a now.from_b now.got_a now.got_b _ _ _ (c.in-Some.ensures.some b.setting settings slots now.from_a now.from_b now.got_a now.got_b now.has) in
      packet_came b settings ends slots _ _ _ now _ c.next.ensures.rest _ _ _ one _ _ (c.in_ok-take_packet.ensures.keeps b now.got_a now.got_b one.packet.first one.packet.last now.kept);
}

pub returns-clause-takes : goal.returns-clause-takes
returns-clause-takes g c b settings ends slots at =
    let now = c.loop-got.invariant.at b settings ends slots at in
    none_came b settings ends slots _ _ _ now _ c.next.ensures.rest (c.in_default.ensures.none b.setting settings slots now.from_a now.from_b now.got_a now.got_b now.has).0
