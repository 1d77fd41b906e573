-- The table of events.
use Rattle.std.specs.Prelude.{ℕ, suc, List, [], ◌∷◌, ◌++◌, map}
use Rattle.std.specs.Fmt.{decimal}
use lib.Chars.{codes}
use Rattle.csv_rows.specs.Rows.{Row}
use Rattle.csv_rows.specs.Written.{rows_text}
use Rattle.lane_events.specs.declared.types.LaneEvent.{LaneEvent}
use Rattle.lane_events.specs.Names.{name_of}

-- an event's row: the number of its lane, the position of the first bit of its word, and the name of its kind
abbrev pub event_fields : ℕ → LaneEvent → Row
event_fields lane e = decimal lane ∷ decimal e.bit ∷ name_of e.kind ∷ []

abbrev pub heading : Row
heading = codes "lane" ∷ codes "bit" ∷ codes "event" ∷ []

-- the rows of these events of the lane of this number, without the heading
abbrev pub event_rows : ℕ → List LaneEvent → List ℕ
event_rows lane events = rows_text (map (event_fields lane) events)

-- the rows of the events of lanes, of which the first has this number
abbrev pub lane_rows : ℕ → List (List LaneEvent) → List ℕ
lane_rows lane [] = []
lane_rows lane (events ∷ lanes) = event_rows lane events ++ lane_rows (suc lane) lanes

-- the heading, and a row for each event, in the order of the lanes and then of the events of a lane
abbrev pub events_table : List (List LaneEvent) → List ℕ
events_table lanes = rows_text (heading ∷ []) ++ lane_rows 0 lanes
