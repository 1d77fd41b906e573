-- The events of rows that are left.
use Rattle.std.specs.Prelude.{ℕ, ◌+◌, ◌-◌, ◌≤◌, List, length, drop, get_or}
use Rattle.resend_events.specs.Events.{times}
use Rattle.resend_events.specs.declared.event.Event.{Event}
use Rattle.resend_events.specs.declared.event.Event.TheVariants.{Send}
use Rattle.resend_events.specs.declared.row.EventRow.{EventRow}
use Rattle.retransmit.specs.Rows.{events_of}
use Rattle.resend_commands.specs.declared.place.Place.{Place}

-- the row is one of these, or the place is after the last, and the event of the row was done at most as often as it comes
pub record IsAmong (rows : List EventRow) (place : Place) : Type 0 where
  pub row : place.row ≤ length rows
  pub done : place.done ≤ (get_or rows place.row (times Send 0)).count

-- the events from a place on
abbrev pub events_left : List EventRow → Place → List Event
events_left rows place = drop place.done (events_of (drop place.row rows))

-- how many events and rows are left
abbrev pub count_left : List EventRow → Place → ℕ
count_left rows place = length (events_left rows place) + (length rows - place.row)
