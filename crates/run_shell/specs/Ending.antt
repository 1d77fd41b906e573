-- How the work of a command ends, and all that is there after a run.
use Rattle.std.specs.Prelude.{false, ◌≡◌, ◌⊎◌, ℕ, ◌<◌, ◌+◌, ◌≤◌, List, [], Option, IfSome}
use Rattle.run_stops.specs.Lines.{usage_line, memory_line}
use Rattle.lk_outside.specs.Files.{Files, Told}
use Rattle.run_shell.specs.declared.status.Status.{Status}
use Rattle.run_shell.specs.declared.status.Status.TheVariants.{Done, StoreFault, Usage, Held, PlanRefused, InputRefused, OutOfMemory, SinkFault}
use Rattle.run_shell.specs.declared.ending.EndingText.{EndingText}
use Rattle.run_shell.specs.declared.ending.EndingText.TheVariants.{Made, NoMemory}
use Rattle.run_stops.specs.declared.stop.Stop.{Stop}
use Rattle.run_shell.specs.Outcome.{Outcome, IsFault, IsAnswer, LeavesOthers}
use Rattle.run_shell.specs.Meaning.{Meaning, IsLawful}
use Rattle.run_stops.specs.Stops.{StoreCount, stop_text, is_of_store}
use Rattle.run_shell.specs.Ends.{Ends, stop_status}
use Rattle.run_shell.specs.Run.{TellsStore, Found, Settles, Tells, FaultsAt}
use Rattle.run_shell.specs.Ended.{Ended}

abbrev pub text_bytes : EndingText → List ℕ
text_bytes (Made text) = text.items
text_bytes NoMemory = memory_line

-- the line of a stop with its status, or that of memory, if it ran out
pub record IsEndingOf (s : Stop) (e : Ended) : Type 0 where
  pub is : ((e.status ≡ stop_status s) × (e.text ≡ stop_text s)) ⊎ ((e.status ≡ OutOfMemory) × (e.text ≡ memory_line))
  pub store : e.store_failed ≡ is_of_store s

-- the work of this meaning ended so; the words may not be accepted
pub record IsEnding (accepted : Type 0) (m : Meaning) (e : Ended) (before now : ℕ) (old new : Option Files) : Type 0 where
  pub lawful : IsLawful accepted m
  pub count : StoreCount e.store_failed before now
  pub store : TellsStore e.status e.store_failed
  pub usage : e.status ≡ Usage → accepted → ⊥
  pub misused : (accepted → ⊥) → (e.status ≡ Usage) ⊎ (e.status ≡ OutOfMemory)
  pub others : Told old new (LeavesOthers m.Creates)
  pub ends : IfSome old (λ files. Ends m files e.status e.text old new)

-- ---- words that are not accepted

abbrev pub misused : Outcome
misused = record { status = Usage; files = []; text = usage_line }

abbrev pub misused_meaning : Meaning
misused_meaning = record {
  IsOutcome = λ files o. o ≡ misused;
  Creates = λ files q. ⊥;
  Names = λ files q. ⊥;
  IsReadLate = λ files q. ⊥;
  IsPlanRefused = λ files. ⊥;
  IsInputRefused = λ files. ⊥;
  IsHeld = λ files. ⊥;
}

pub record IsMisused (e : Ended) : Type 0 where
  pub is : ((e.status ≡ Usage) × (e.text ≡ usage_line)) ⊎ ((e.status ≡ OutOfMemory) × (e.text ≡ memory_line))
  pub store : e.store_failed ≡ false

-- ---- memory that ran out before there was a command

pub record IsNoMemory (e : Ended) : Type 0 where
  pub status : e.status ≡ OutOfMemory
  pub text : e.text ≡ memory_line
  pub store : e.store_failed ≡ false

-- ---- after a run

-- all that is there after a run of this meaning
pub record Ran (accepted : Type 0) (m : Meaning) (status : Status) (store_before store_now sink_before sink_now : ℕ) (old new : Option Files) (was is : Option (List ℕ)) : Type 0 where
  pub store_fault : status ≡ StoreFault → store_before < store_now
  pub sink_fault : status ≡ SinkFault → (sink_before < sink_now) × (store_now ≡ store_before)
  pub sink_replaces : sink_before < sink_now → store_now ≡ store_before → status ≡ SinkFault
  pub quiet : IsAnswer status → (store_now ≡ store_before) × (sink_now ≡ sink_before)
  pub store_once : store_now ≤ store_before + 1
  pub sink_once : sink_now ≤ sink_before + 1
  pub usage : status ≡ Usage → accepted → ⊥
  pub misused : (accepted → ⊥) → (status ≡ Usage) ⊎ IsFault status
  pub plan_refused : IfSome old (λ files. status ≡ PlanRefused → m.IsPlanRefused files)
  pub refused_plan : IfSome old (λ files. m.IsPlanRefused files → (status ≡ PlanRefused) ⊎ IsFault status)
  pub input_refused : IfSome old (λ files. status ≡ InputRefused → m.IsInputRefused files)
  pub refused_input : IfSome old (λ files. m.IsInputRefused files → (status ≡ InputRefused) ⊎ IsFault status)
  pub held : IfSome old (λ files. status ≡ Held → m.IsHeld files)
  pub held_stream : IfSome old (λ files. m.IsHeld files → (status ≡ Held) ⊎ IsFault status)
  pub accepted_words : IfSome old (λ files. accepted → (m.IsPlanRefused files → ⊥) → (m.IsInputRefused files → ⊥) → (m.IsHeld files → ⊥) → (status ≡ Done) ⊎ IsFault status)
  pub found : IfSome old (λ files. IsAnswer status → Found (m.IsOutcome files) status)
  pub complete : IfSome old (λ files. (o : Outcome) → m.IsOutcome files o → store_now ≡ store_before → sink_now ≡ sink_before → (status ≡ o.status) ⊎ (status ≡ OutOfMemory))
  pub settled : IfSome old (λ files. (o : Outcome) → m.IsOutcome files o → Settles o status old new)
  pub others : Told old new (LeavesOthers m.Creates)
  pub inputs_first : IfSome old (λ files. status ≡ StoreFault → FaultsAt (m.Names files) (m.Creates files) (m.IsReadLate files) sink_before sink_now was is old new)
  pub text : IfSome old (λ files. (o : Outcome) → m.IsOutcome files o → Tells o (m.Names files) status sink_before sink_now was is)
