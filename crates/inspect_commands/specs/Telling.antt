-- How the lanes are told, one after another: of each the rows of its events, as its bytes come.
use Rattle.std.specs.Prelude.{◌≡◌, ◌⊎◌, ◌≤◌, ◌+◌, ◌*◌, ◌^◌, ℕ, Bool, true, false, List, [], ◌∷◌, ◌++◌, get_or, length, take, sum_by, Option, IfSome, Result, Ok, Err, Contains, Vec}
use Rattle.std.specs.declared.alloc.Global.{Global}
use Rattle.lk_base.specs.Checksum.{bits_of_bytes}
use Rattle.lk_base.specs.Limits.{lane_limit}
use Rattle.lk_base.specs.Link.{Settings}
use Rattle.lk_outside.specs.Files.{Files, Told}
use Rattle.lock_model.specs.declared.types.LaneReport.{LaneReport}
use Rattle.run_stops.specs.declared.stop.Stop.{Stop}
use Rattle.run_stops.specs.Stops.{IsOfStore}
use Rattle.run_shell.specs.declared.finished.Finished.{Finished}
use Rattle.run_shell.specs.Open.{Open}
use Rattle.run_shell.specs.Outcome.{Holds, HoldsPart}
use Rattle.run_shell.specs.Outputs.{IsOpen, open_names, outs}
use Rattle.lane_receipts.specs.LaneReports.{AreLaneReports, lane_lines}
use Rattle.lane_events.specs.declared.types.LaneEvent.{LaneEvent}
use Rattle.lane_events.specs.Events.{AreLaneEvents}
use Rattle.lane_events.specs.Inspection.{Finds, Inspects}
use Rattle.inspect_commands.specs.declared.lane.InspectedLane.{InspectedLane}
use Rattle.inspect_commands.specs.declared.lanes.ToldLanes.{ToldLanes}
use Rattle.inspect_commands.specs.Table.{event_rows, events_table}
use Rattle.inspect_commands.specs.Inspect.{AreEventsOfLanes, inspected_text}

-- ---- one lane

-- what is counted of a lane fits: all bits of the bytes that were taken came, and each byte showed at most twelve events
pub record IsWithin (t : InspectedLane) : Type 0 where
  pub taken : t.inspector.taken ≡ 8 * t.offset
  pub few : t.events ≤ 12 * t.offset
  pub short : t.offset ≤ lane_limit + 4096

-- so many of these bytes were taken, and these are the events of their bits
pub record HasTaken (s : Settings) (bytes : List ℕ) (events : List LaneEvent) (t : InspectedLane) : Type 0 where
  pub within : t.offset ≤ length bytes
  pub inspects : Inspects t.inspector s (bits_of_bytes (take t.offset bytes))
  pub are : AreLaneEvents s (bits_of_bytes (take t.offset bytes)) events

-- The events of a lane so far are told: the one output was given this text and then their rows. Where the files are told, `Are`
-- holds, and they are those of the first of these bytes.
pub record IsTelling (s : Settings) (lane : ℕ) (bytes given : List ℕ) (Are : Type 0) (t : InspectedLane) (opens : List Open) (was now : Option Files) : Type 0 where
  pub events : List LaneEvent
  pub stand : IsOpen opens ((given ++ event_rows lane events) ∷ []) was now
  pub count : t.events ≡ length events
  pub taken : IfSome was (λ files. Are × HasTaken s bytes events t)

-- the events of a lane were not told to the end: a part of the text and of the rows of some first of them stands in the one of these
-- outputs; what stopped it was the store, at the output or at a file of these names, or memory
pub record IsCutOff (s : Settings) (lane : ℕ) (bytes given : List ℕ) (outputs names : List (List ℕ)) (why : Stop) (was now : Option Files) : Type 0 where
  pub events : List LaneEvent
  pub part : Told was now (HoldsPart (outs outputs ((given ++ event_rows lane events) ∷ [])))
  pub stops : IfSome was (λ files. IsOfStore (λ q. Contains outputs q ⊎ Contains names q) why
      × ((all : List LaneEvent) → AreLaneEvents s (bits_of_bytes bytes) all → (rest : List LaneEvent) × (all ≡ events ++ rest)))

-- all events of the lane are told
pub record HasTold (s : Settings) (lane : ℕ) (bytes given : List ℕ) (Are : Type 0) (t : InspectedLane) (opens : List Open) (was now : Option Files) : Type 0 where
  pub events : List LaneEvent
  pub stand : IsOpen opens ((given ++ event_rows lane events) ∷ []) was now
  pub count : t.events ≡ length events
  pub taken : IfSome was (λ files. Are × Inspects t.inspector s (bits_of_bytes bytes) × AreLaneEvents s (bits_of_bytes bytes) events)

-- the events of one more piece are told; or a part of some first of them is, whatever comes after the piece
abbrev pub TellsPiece : {T : Type 0} → ℕ → List ℕ → List ℕ → InspectedLane → InspectedLane → List Open → List Open → Result T Stop → Option Files → Option Files → Type 0
TellsPiece lane piece given t u before opens (Ok _) was now =
    (found : List LaneEvent) × Finds t.inspector u.inspector (bits_of_bytes piece) [] found × (u.events ≡ t.events + length found) × IsOpen opens ((given ++ event_rows lane found) ∷ []) was now
TellsPiece lane piece given t u before opens (Err why) was now =
    (found : List LaneEvent) × IsOfStore (Contains (open_names before)) why × Told was now (HoldsPart (outs (open_names before) ((given ++ event_rows lane found) ∷ [])))
    × ((s : Settings) (bits rest : List Bool) (events all : List LaneEvent) → Inspects t.inspector s bits → AreLaneEvents s bits events → AreLaneEvents s (bits ++ (bits_of_bytes piece ++ rest)) all →
    (others : List LaneEvent) × (all ≡ (events ++ found) ++ others))

abbrev pub TellsNext : Settings → ℕ → List ℕ → List ℕ → Type 0 → List (List ℕ) → Result Bool Stop → InspectedLane → List Open → List Open → Option Files → Option Files → Type 0
TellsNext s lane bytes given Are names (Ok true) t before opens was now = IsTelling s lane bytes given Are t opens was now
TellsNext s lane bytes given Are names (Ok false) t before opens was now = HasTold s lane bytes given Are t opens was now
TellsNext s lane bytes given Are names (Err why) t before opens was now = IsCutOff s lane bytes given (open_names before) names why was now

abbrev pub TellsLane : {T : Type 0} → Settings → ℕ → List ℕ → List ℕ → Type 0 → List (List ℕ) → Result T Stop → InspectedLane → List Open → List Open → Option Files → Option Files → Type 0
TellsLane s lane bytes given Are names (Ok _) t before opens was now = HasTold s lane bytes given Are t opens was now
TellsLane s lane bytes given Are names (Err why) t before opens was now = IsCutOff s lane bytes given (open_names before) names why was now

-- ---- all lanes

-- no lane is longer than the limit
abbrev pub AreShort : List (List ℕ) → Type 0
AreShort lanes = (lane : ℕ) → length (get_or lanes lane []) ≤ lane_limit

-- The first lanes are told, so many: the one output was given the table of their events, and the lines of their reports and the number of
-- their events were kept. Where the files are told, `Are` holds, and they are those of the first of these lanes.
pub record AreTold (s : Settings) (count : ℕ) (lanes : List (List ℕ)) (Are : Type 0) (t : ToldLanes) (opens : List Open) (was now : Option Files) : Type 0 where
  pub reports : List LaneReport
  pub events : List (List LaneEvent)
  pub many : length events ≡ count
  pub lines : length reports ≡ count
  pub text : t.lines.items ≡ lane_lines 0 reports
  pub sum : t.events ≡ sum_by length events
  pub few : t.events ≤ count * 2 ^ 36
  pub stand : IsOpen opens (events_table events ∷ []) was now
  pub are : IfSome was (λ files. Are × AreEventsOfLanes s (take count lanes) events × AreLaneReports s (take count lanes) reports)

-- something stopped the table: a part of its first bytes stands
pub record IsBroken (s : Settings) (lanes outputs names : List (List ℕ)) (why : Stop) (was now : Option Files) : Type 0 where
  pub first : List ℕ
  pub part : Told was now (HoldsPart (outs outputs (first ∷ [])))
  pub stops : IfSome was (λ files. IsOfStore (λ q. Contains outputs q ⊎ Contains names q) why
      × ((events : List (List LaneEvent)) → AreEventsOfLanes s lanes events → (rest : List ℕ) × (events_table events ≡ first ++ rest)))

abbrev pub TellsLanes : {T : Type 0} → Settings → ℕ → List (List ℕ) → Type 0 → List (List ℕ) → Result T Stop → ToldLanes → List Open → List Open → Option Files → Option Files → Type 0
TellsLanes s count lanes Are names (Ok _) t before opens was now = AreTold s count lanes Are t opens was now
TellsLanes s count lanes Are names (Err why) t before opens was now = IsBroken s lanes (open_names before) names why was now

-- ---- the table

-- the one output was given the whole table, and the text is that of the reports and the events
pub record IsWhole (s : Settings) (lanes : List (List ℕ)) (text : List ℕ) (Stands : List ℕ → Type 0) (was : Option Files) : Type 0 where
  pub reports : List LaneReport
  pub events : List (List LaneEvent)
  pub says : text ≡ inspected_text reports events
  pub stands : Stands (events_table events)
  pub are : IfSome was (λ files. AreEventsOfLanes s lanes events × AreLaneReports s lanes reports)

abbrev pub FillsTable : Settings → List (List ℕ) → List (List ℕ) → Result (Vec ℕ Global) Stop → List Open → List Open → Option Files → Option Files → Type 0
FillsTable s lanes names (Ok text) before opens was now = IsWhole s lanes text.items (λ table. IsOpen opens (table ∷ []) was now) was
FillsTable s lanes names (Err why) before opens was now = IsBroken s lanes (open_names before) names why was now

-- the table stands, or a part of it
abbrev pub WritesTable : Settings → List (List ℕ) → List (List ℕ) → Result Finished Stop → List Open → Option Files → Option Files → Type 0
WritesTable s lanes names (Ok f) before was now = (f.held ≡ false) × IsWhole s lanes f.text.items (λ table. Told was now (Holds (outs (open_names before) (table ∷ [])))) was
WritesTable s lanes names (Err why) before was now = IsBroken s lanes (open_names before) names why was now
