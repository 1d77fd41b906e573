-- An event as C sees it: its kind as a number, its places, and 0 for what its kind lacks.
use Rattle.std.specs.Prelude.{ℕ, Option, Some, None}
use Rattle.lk_base.specs.declared.fault.DropWhy.{DropWhy}
use Rattle.lk_base.specs.declared.fault.DropWhy.TheVariants as drops
use Rattle.lk_base.specs.declared.position.Pos.{Pos}
use Rattle.receive_model.specs.declared.span.Span.{Span}
use Rattle.rx_end.specs.declared.event.RxEvent.{RxEvent}
use Rattle.rx_end.specs.declared.event.RxEvent.TheVariants as events
use Rattle.c_parts.specs.Codes.{fault_number}
use Rattle.c_parts.specs.Places.{place_of}
use Rattle.c_receiver.specs.declared.event.CEvent.{CEvent}

abbrev pub drop_number : DropWhy → ℕ
drop_number drops.Bad = 0
drop_number drops.Crc = 1
drop_number drops.Protocol = 2
drop_number drops.Lost = 3
drop_number drops.End = 4
drop_number drops.TooLong = 5
drop_number drops.Unlisted = 6
drop_number drops.SenderError = 7

-- an event of this kind with no field
abbrev pub no_event : ℕ → CEvent
no_event kind = record { kind = kind; channel = 0; length = 0; why = 0; first = place_of None; last = place_of None; word = 0 }

abbrev pub packet : ℕ → ℕ → Pos → Pos → CEvent
packet channel length first last = record { kind = 1; channel = channel; length = length; why = 0; first = place_of (Some first); last = place_of (Some last); word = 0 }

abbrev pub dropped : ℕ → DropWhy → CEvent
dropped channel why = record { kind = 2; channel = channel; length = 0; why = drop_number why; first = place_of None; last = place_of None; word = 0 }

-- it lies between the verified word before it and the one after it
abbrev pub fault_span : Span → CEvent
fault_span found = record { kind = 3; channel = 0; length = 0; why = fault_number found.why; first = place_of found.after; last = place_of found.before; word = 0 }

abbrev pub flow : Pos → ℕ → CEvent
flow at word = record { kind = 4; channel = 0; length = 0; why = 0; first = place_of (Some at); last = place_of None; word = word }

abbrev pub shown : Option RxEvent → CEvent
shown None = no_event 0
shown (Some (events.Packet channel length first last)) = packet channel length first last
shown (Some (events.Dropped channel why)) = dropped channel why
shown (Some (events.Span found)) = fault_span found
shown (Some (events.Flow at word)) = flow at word
shown (Some events.Ended) = no_event 5
