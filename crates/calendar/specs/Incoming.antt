-- What an incoming calendar means: the rows whose words it has taken so far.
use Rattle.std.specs.Prelude.{◌≡◌, ℕ, ◌+◌, ◌*◌, ◌/◌, ◌^◌, ◌<◌, min, [], Bool, true, false, List, length, Option, Some, None, slice_index_or}
use Rattle.std.specs.Option.{option_map}
use Rattle.stream_model.specs.Calendar.{Told, is_valid, word_number}
use Rattle.stream_model.specs.declared.rows.FlowRow.{FlowRow}
use Rattle.lk_base.specs.Fields.{crc_field}
use Rattle.lk_base.specs.Checksum.{control_crc}
use Rattle.control_words.specs.ControlWord.{IsWordOf}
use Rattle.control_words.specs.declared.fields.Control.{Control}
use Rattle.calendar.specs.Changes.{words_back, told_back, state_in}
use Rattle.calendar.specs.declared.incoming.CalendarIn.{CalendarIn}

-- what a call takes for a word: the fields of a valid word, and nothing for an invalid one
abbrev pub StandsFor : Option Control → ℕ → Type 0
StandsFor None word = is_valid word ≡ false
StandsFor (Some c) word = (is_valid word ≡ true) × ((crc : ℕ) × IsWordOf c crc word)

-- `heard` is the control word `word` with the checksum of itself alone: its bits 63:24 are those of `word`
abbrev pub IsHeardAs : ℕ → ℕ → Type 0
IsHeardAs word heard = (heard / 2 ^ 24 ≡ word / 2 ^ 24) × (crc_field heard ≡ control_crc [] heard)

-- each channel has the state that all that was told gives it
abbrev pub HasStates : List Bool → List Told → Type 0
HasStates on told = (channel : ℕ) → channel < 65536 → slice_index_or on channel false ≡ state_in told channel

-- the calendar has these entries and has taken the words of these rows
pub record Stands (calendar : CalendarIn) (entries : List ℕ) (rows : List FlowRow) : Type 0 where
  pub shown : calendar.entries.items ≡ entries
  pub wide : length calendar.on.items ≡ 65536
  -- the number of the entry at which the next word goes on, if the last word counted
  pub next : calendar.next ≡ option_map (λ d. min (16 * (d + 1)) (length entries)) (word_number (words_back rows))
  pub states : HasStates calendar.on.items (told_back entries rows)
