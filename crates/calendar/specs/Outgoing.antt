-- What an outgoing calendar means: the local rows that were set so far, and the control words that were made.
use Rattle.std.specs.Prelude.{◌≡◌, ℕ, ◌<◌, ◌≤◌, ◌==◌, Bool, true, false, List, length, reverse, find, slice_index_or}
use Rattle.std.specs.Option.{option_map_or}
use Rattle.stream_model.specs.Calendar.{first_entry}
use Rattle.stream_model.specs.declared.rows.LocalRow.{LocalRow}
use Rattle.calendar.specs.declared.outgoing.CalendarOut.{CalendarOut}

-- a channel's own state by its last row; without one it is on
abbrev pub last_local : List LocalRow → ℕ → Bool
last_local local channel = option_map_or (λ (row : LocalRow). row.on) (find (λ (row : LocalRow). row.channel == channel) (reverse local)) true

-- the calendar has these entries, was set by these rows, and the next control word is number j
pub record StandsOut (calendar : CalendarOut) (entries : List ℕ) (local : List LocalRow) (j : ℕ) : Type 0 where
  pub shown : calendar.entries.items ≡ entries
  pub low : 1 ≤ length entries
  pub wide : length calendar.on.items ≡ 65536
  pub first : calendar.first ≡ first_entry entries j
  pub states : (channel : ℕ) → channel < 65536 → slice_index_or calendar.on.items channel false ≡ last_local local channel
  pub same : calendar.all_on ≡ true → (channel : ℕ) → last_local local channel ≡ true
