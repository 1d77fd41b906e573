use Rattle.std.proofs.Common.{refl, ap}
use Rattle.control_words.specs.ControlWord.{eop_format}
use Rattle.live_stream.specs.Gives.{source_of}
use Rattle.live_stream.proofs.Steps.{none_to_come, idle_step}
use Rattle.live_stream.proofs.scheduler.LiveScheduler.idle.Goals as goal

pub idle-x-requires : goal.idle-x-requires
idle-x-requires c = let (g, w, h) = c.requires.words in (source_of g, w, h.burst)

pub returns : goal.returns
returns c g w h time =
    let s = c.args.self.now in
    let none = none_to_come s w c.requires.due.given in
    let n = c.idle-x.ensures.none in
    let m = c.idle-x.ensures.word (source_of g) w h.burst c.requires.due.given h.given_by.local in
    idle_step s g w h none _ c.idle-x.result m.fields m.sealed (record { settings = (refl, refl, refl, refl); incoming = refl; slot = refl; given = n.2; end = (refl, refl); accepts = (refl, refl) })
    m.plain.0 m.plain.1 m.plain.2 m.plain.3 time m.outgoing refl n.0 n.1 refl (ap eop_format n.3)
