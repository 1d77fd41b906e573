-- How lanes go over into a receiver, wherever their bytes are kept.
use Rattle.std.specs.Prelude.{◌≡◌, ◌⊎◌, ◌≤◌, ℕ, true, List, ◌++◌, length, take, drop, Option, Result, Ok, Err, Contains}
use Rattle.lk_base.specs.Link.{Settings}
use Rattle.lk_outside.specs.Files.{Files, file, Told}
use Rattle.receive_model.specs.Events.{Event}
use Rattle.event_model.specs.Fed.{Fed, AllBegin, all_finished}
use Rattle.event_model.specs.Given.{AreEvents}
use Rattle.rx_end.specs.Observing.{HasSeen, Keeping, SawAll, Seeing}
use Rattle.rx_end.specs.States.{State}
use Rattle.run_stops.specs.declared.stop.Stop.{Stop}
use Rattle.run_shell.specs.Outcome.{HoldsPart}
use Rattle.run_shell.specs.Outputs.{outs}
use Rattle.run_stops.specs.Stops.{IsOfStore}
use Rattle.receipts.specs.declared.receipt.Receipt.{Receipt}
use Rattle.receipts.specs.Receipts.{Beginning, given_of, names_of}
use Rattle.lane_receipts.specs.Feeding.{IsDrained}

-- ---- pieces

-- the piece is what stands in the bytes at this offset; it is empty only at their end
pub record IsPieceAt (offset : ℕ) (piece bytes : List ℕ) : Type 0 where
  pub taken : piece ≡ take (length piece) (drop offset bytes)
  pub stops : length piece ≡ 0 → length bytes ≤ offset

-- the files of these names are as they were
abbrev pub AreAsBefore : List (List ℕ) → Option Files → Option Files → Type 0
AreAsBefore names was now = Told was now (λ before after. (q : List ℕ) → Contains names q → file after q ≡ file before q)

-- this piece of a lane's bytes is held, and what is held is still of the lanes; or the store, at a file of these names, or memory
-- stopped the reading
abbrev pub ReadsOn : {T : Type 0} → List (List ℕ) → Type 0 → ℕ → List ℕ → List ℕ → Result T Stop → Type 0
ReadsOn names Still offset piece bytes (Ok _) = Still × IsPieceAt offset piece bytes
ReadsOn names Still offset piece bytes (Err why) = IsOfStore (Contains names) why

-- ---- all of the lanes

-- all lanes were fed to their ends, and all of their events have come: those of any such lanes that begin with what was fed first
pub record AllTaken (b : Beginning) (s : Settings) (first : List Fed) (Are : List (List ℕ) → Type 0) (r : State) (kept : Receipt) (now : Option Files) : Type 0 where
  pub fed : List Fed
  pub given : List Event
  pub drained : IsDrained b s fed given r kept now
  pub over : all_finished fed ≡ true
  pub from : (lanes : List (List ℕ)) → Are lanes → AllBegin first lanes → AllBegin fed lanes

-- what stopped them: the store, at an output or at a file of these names, or memory, after these of the lanes' events
pub record StopsLanes (b : Beginning) (s : Settings) (names lanes : List (List ℕ)) (came : List Event) (why : Stop) : Type 0 where
  pub by_store : IsOfStore (λ q. Contains (names_of b) q ⊎ Contains names q) why
  pub first : (all : List Event) → AreEvents s b.setting lanes all → (rest : List Event) × (all ≡ came ++ rest)

-- something stopped them, and a part of what some first events come to stands
pub record IsBroken (b : Beginning) (s : Settings) (first : List Fed) (Are : List (List ℕ) → Type 0) (names : List (List ℕ)) (why : Stop) (now : Option Files) : Type 0 where
  pub came : List Event
  pub part : Told b.was now (HoldsPart (outs (names_of b) (given_of b came)))
  pub stops : (lanes : List (List ℕ)) → Are lanes → AllBegin first lanes → StopsLanes b s names lanes came why

abbrev pub TakesLanes : {T : Type 0} → Beginning → Settings → List Fed → (List (List ℕ) → Type 0) → List (List ℕ) → Result T Stop → State → Receipt → Option Files → Type 0
TakesLanes b s first Are names (Ok _) r kept now = AllTaken b s first Are r kept now
TakesLanes b s first Are names (Err why) r kept now = IsBroken b s first Are names why now

-- ---- an observer

-- of any such lanes that begin with what was fed first, an observer that had seen all up to there has seen all
abbrev pub ObservesLanes : {O : Type 0} → Keeping O → Seeing O → O → O → State → State → Settings → List Fed → (List (List ℕ) → Type 0) → Type 0
ObservesLanes keeps saw o p v w s first Are = (lanes : List (List ℕ)) → Are lanes → AllBegin first lanes → HasSeen keeps saw o v s first lanes → SawAll keeps saw p w.front s lanes
