-- How lanes go over into a gatherer.
use Rattle.std.specs.Prelude.{◌≡◌, ◌⊎◌, ℕ, true, List, ◌++◌, Option, Result, Ok, Err, Contains, length, map, slice_get, Some, Vec}
use Rattle.std.specs.declared.alloc.Global.{Global}
use Rattle.lk_base.specs.Link.{Settings}
use Rattle.lk_base.specs.declared.word.Aligned.{Aligned}
use Rattle.lk_outside.specs.Files.{Files, Told}
use Rattle.lock_model.specs.declared.types.LaneReport.{LaneReport}
use Rattle.event_model.specs.Fed.{AllBegin, Fed, all_finished}
use Rattle.rx_front.specs.Calls.{IsReportOf}
use Rattle.rx_front.specs.Standing as front
use Rattle.rx_front.specs.Standing.{Progress}
use Rattle.rx_front.specs.States.{State}
use Rattle.run_stops.specs.declared.stop.Stop.{Stop}
use Rattle.run_stops.specs.Stops.{IsOfStore}
use Rattle.run_shell.specs.Outcome.{HoldsPart}
use Rattle.run_shell.specs.Outputs.{outs}
use Rattle.lane_receipts.specs.Feeding.{offset_of}
use Rattle.lane_receipts.specs.LaneReports.{lane_lines}
use Rattle.gather_commands.specs.declared.gatherer.Gatherer.{Gatherer}
use Rattle.gather_commands.specs.Table.{gathered_contents, gathered_names}
use Rattle.lane_words.specs.Items.{AreAllItems}
use Rattle.gather_commands.specs.Taking.{HasTaken}

-- all lanes were fed to their ends, and all of their items were gathered: those of any such lanes that begin with what was fed first
pub record AllTaken (out : List ℕ) (s : Settings) (first : List Fed) (Are : List (List ℕ) → Type 0) (g : Gatherer) (was now : Option Files) : Type 0 where
  pub fed : List Fed
  pub taken : HasTaken out s fed g was now
  pub over : all_finished fed ≡ true
  pub from : (lanes : List (List ℕ)) → Are lanes → AllBegin first lanes → AllBegin fed lanes

-- what stopped them: the store, at an output or at a file of these names, or memory, after these of the lanes' items
pub record StopsLanes (out : List ℕ) (s : Settings) (names lanes : List (List ℕ)) (items : List Aligned) (why : Stop) : Type 0 where
  pub by_store : IsOfStore (λ q. Contains (gathered_names out) q ⊎ Contains names q) why
  pub first : (all : List Aligned) → AreAllItems s lanes all → (rest : List Aligned) × (all ≡ items ++ rest)

-- something stopped them, and a part of what some first items come to stands
pub record IsBroken (out : List ℕ) (s : Settings) (first : List Fed) (Are : List (List ℕ) → Type 0) (names : List (List ℕ)) (why : Stop) (was now : Option Files) : Type 0 where
  pub items : List Aligned
  pub part : Told was now (HoldsPart (outs (gathered_names out) (gathered_contents items)))
  pub stops : (lanes : List (List ℕ)) → Are lanes → AllBegin first lanes → StopsLanes out s names lanes items why

abbrev pub TakesLanes : {T : Type 0} → List ℕ → Settings → List Fed → (List (List ℕ) → Type 0) → List (List ℕ) → Result T Stop → Gatherer → Option Files → Option Files → Type 0
TakesLanes out s first Are names (Ok _) g was now = AllTaken out s first Are g was now
TakesLanes out s first Are names (Err why) g was now = IsBroken out s first Are names why was now

-- the lines of the reports of this many lanes, which are those of the front
abbrev pub AreLinesOf : State → ℕ → Vec ℕ Global → Type 0
AreLinesOf f lanes text = (reports : List LaneReport) × (length reports ≡ lanes) × (text.items ≡ lane_lines 0 reports)
    × ((s : Settings) (fed : List Fed) (items : List Aligned) (t : Progress) → front.Stands f s fed items t → (lane : ℕ) (report : LaneReport) → slice_get reports lane ≡ Some report → IsReportOf s t.rounds lane fed report)

-- So much of the lanes was fed, and all items that are known were gathered. Any such lanes that begin with what was fed first begin
-- with all that was fed, and what is held is still of them.
pub record IsFeeding (out : List ℕ) (s : Settings) (Are Still : List (List ℕ) → Type 0) (first fed : List Fed) (g : Gatherer) (offsets : List (Option ℕ)) (was now : Option Files) : Type 0 where
  pub taken : HasTaken out s fed g was now
  pub reached : offsets ≡ map offset_of fed
  pub from : (lanes : List (List ℕ)) → Are lanes → AllBegin first lanes → Still lanes × AllBegin fed lanes
