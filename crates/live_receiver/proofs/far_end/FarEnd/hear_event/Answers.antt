-- What an event says is heard.
use Rattle.std.proofs.Common.{◌++◌, ◌∷◌, [], ℕ, refl, sym, subst}
use Rattle.calendar.specs.Incoming.{Stands}
use Rattle.duplex_model.specs.DuplexRun.{heard_word}
use Rattle.duplex_model.proofs.Telling.{upper_of_heard, heard_crc}
use Rattle.rx_end.specs.declared.event.RxEvent.{RxEvent}
use Rattle.live_receiver.specs.FarEnd.{at_once, heard_now}
use Rattle.live_receiver.proofs.far_end.FarEnd.hear_event.Goals as goal

pub take-requires : goal.take-requires
take-requires c = let word : ℕ = c.in-Flow.word in (heard_word word, c.verified_word.ensures (heard_word word) (upper_of_heard word, heard_crc word))

pub returns-in-Flow : goal.returns-in-Flow
returns-in-Flow c entries rows h =
    let word : ℕ = c.in-Flow.word in
    subst (λ (e : RxEvent). Stands c.take.new.self entries (rows ++ heard_now e)) (sym c.in-Flow.is)
    (c.take.ensures entries rows (heard_word word) h (c.verified_word.ensures (heard_word word) (upper_of_heard word, heard_crc word)))

pub returns-in-Span : goal.returns-in-Span
returns-in-Span c entries rows h =
    subst (λ (e : RxEvent). Stands c.take-in-Span.new.self entries (rows ++ heard_now e)) (sym c.in-Span.is) (c.take-in-Span.ensures entries rows 0 h refl)
