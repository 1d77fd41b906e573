-- What the work of a command came to.
use Rattle.std.specs.Prelude.{Bool, true, false, ◌≡◌, List, ℕ, Result, Ok, Err, Option}
use Rattle.lk_outside.specs.Files.{Files, Told}
use Rattle.run_stops.specs.Lines.{store_line, memory_line}
use Rattle.run_stops.specs.Stops.{stop_text}
use Rattle.run_stops.specs.declared.stop.Stop.{Stop}
use Rattle.run_stops.specs.declared.stop.Stop.TheVariants as stop
use Rattle.run_shell.specs.declared.finished.Finished.{Finished}
use Rattle.run_shell.specs.declared.status.Status.{Status}
use Rattle.run_shell.specs.declared.status.Status.TheVariants.{Done, StoreFault, Usage, Held, PlanRefused, InputRefused, OutOfMemory, SinkFault}
use Rattle.run_shell.specs.Outcome.{Outcome, Holds, HoldsPart, Unchanged}
use Rattle.run_shell.specs.Meaning.{Meaning}

abbrev pub stop_status : Stop → Status
stop_status (stop.Plan why) = PlanRefused
stop_status (stop.Input name why) = InputRefused
stop_status (stop.Store name) = StoreFault
stop_status stop.StoreNoMemory = OutOfMemory
stop_status stop.OutOfMemory = OutOfMemory

abbrev pub held_status : Bool → Status
held_status true = Held
held_status false = Done

-- an outcome's status and text, and its files are there
pub record Answers (m : Meaning) (before : Files) (its_status : Status) (its_text : List ℕ) (old new : Option Files) : Type 0 where
  pub outcome : Outcome
  pub is_outcome : m.IsOutcome before outcome
  pub status : its_status ≡ outcome.status
  pub text : its_text ≡ outcome.text
  pub files : Told old new (Holds outcome.files)

-- a part of the outcome is there, if there is an outcome
abbrev pub Stopped : Meaning → Files → Option Files → Option Files → Type 0
Stopped m files old new = (o : Outcome) → m.IsOutcome files o → Told old new (HoldsPart o.files)

-- this is the name in the line of the store's failure: of a file that the command reads or creates; and if the command neither creates
-- the file of this name nor reads it late, no file has changed
abbrev pub FailsAt : Meaning → Files → List ℕ → Option Files → Option Files → Type 0
FailsAt m files name old new = m.Names files name × ((m.Creates files name → ⊥) → (m.IsReadLate files name → ⊥) → Told old new Unchanged)

-- the status and text that the work came to, and the files then
abbrev pub Ends : Meaning → Files → Status → List ℕ → Option Files → Option Files → Type 0
Ends m files StoreFault text old new = ((name : List ℕ) × FailsAt m files name old new × (text ≡ store_line name)) × Stopped m files old new
Ends m files OutOfMemory text old new = (text ≡ memory_line) × Stopped m files old new
Ends m files SinkFault text old new = ⊥
Ends m files Done text old new = Answers m files Done text old new
Ends m files Usage text old new = Answers m files Usage text old new
Ends m files Held text old new = Answers m files Held text old new
Ends m files PlanRefused text old new = Answers m files PlanRefused text old new
Ends m files InputRefused text old new = Answers m files InputRefused text old new

abbrev pub Comes : Meaning → Option Files → Option Files → Result Finished Stop → Files → Type 0
Comes m old new (Ok f) files = Ends m files (held_status f.held) f.text.items old new
Comes m old new (Err s) files = Ends m files (stop_status s) (stop_text s) old new
