-- What the far end tells of its channels by its control words.
use Rattle.std.specs.Prelude.{ℕ, ◌≡◌, ◌≤◌, ◌++◌, Bool, All, List, [], ◌∷◌, flat_map, Option, Some, None}
use Rattle.stream_model.specs.Calendar.{is_on}
use Rattle.stream_model.specs.declared.rows.FlowRow.{FlowRow}
use Rattle.duplex_model.specs.DuplexRun.{heard_word}
use Rattle.receive_model.specs.Events.{Event, Delivered, Dropped, FaultSpan, Flow}
use Rattle.rx_end.specs.declared.event.RxEvent.{RxEvent}
use Rattle.rx_end.specs.declared.event.RxEvent.TheVariants as events
use Rattle.calendar.specs.Incoming.{Stands}
use Rattle.calendar.specs.declared.incoming.CalendarIn.{CalendarIn}

-- a word that counts from the start on
abbrev pub at_once : ℕ → FlowRow
at_once word = record { slot = 0; word = word }

-- What an event says of flow control: a verified control word is the word of a flow row. In a fault span words may be missing, so it
-- is one that is not valid, after which no word counts up to the next with Reset Calendar
abbrev pub heard_of : Event → List FlowRow
heard_of (Delivered channel packet) = []
heard_of (Dropped channel why) = []
heard_of (FaultSpan span) = at_once 0 ∷ []
heard_of (Flow at word) = at_once (heard_word word) ∷ []

-- what events say, in order
abbrev pub heard_in : List Event → List FlowRow
heard_in given = flat_map heard_of given

-- the far end's channel is on by the events that were given, unless the last entry for it is 0
abbrev pub is_on_by : List ℕ → List Event → ℕ → Bool
is_on_by entries given channel = is_on entries (heard_in given) channel 0

-- ---- of what `next` answers

abbrev pub heard_now : RxEvent → List FlowRow
heard_now (events.Packet channel length first last) = []
heard_now (events.Dropped channel why) = []
heard_now (events.Span span) = at_once 0 ∷ []
heard_now (events.Flow at word) = at_once (heard_word word) ∷ []
heard_now events.Ended = []

abbrev pub heard_by : Option RxEvent → List FlowRow
heard_by None = []
heard_by (Some event) = heard_now event

-- ---- of a calendar

-- it has these entries, and has taken these rows
abbrev pub HasHeard : CalendarIn → List ℕ → List FlowRow → Type 0
HasHeard far entries rows = Stands far entries rows

-- it takes what an answer says
abbrev pub Hears : CalendarIn → CalendarIn → Option RxEvent → Type 0
Hears old new answer = (entries : List ℕ) (rows : List FlowRow) → HasHeard old entries rows → HasHeard new entries (rows ++ heard_by answer)

-- a channel is on by what it has taken
abbrev pub IsOnNow : CalendarIn → ℕ → Bool → Type 0
IsOnNow far channel on =
    (entries : List ℕ) (rows : List FlowRow) → HasHeard far entries rows → All (λ (row : FlowRow). row.slot ≤ 0) rows → on ≡ is_on entries rows channel 0
