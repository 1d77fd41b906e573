-- What is there after a run.
use Rattle.std.specs.Prelude.{Bool, true, false, ◌≡◌, ◌⊎◌, ℕ, ◌<◌, ◌+◌, ◌≤◌, List, ◌++◌, take, length, Option}
use Rattle.run_shell.specs.declared.status.Status.{Status}
use Rattle.run_shell.specs.declared.status.Status.TheVariants.{Done, StoreFault, Usage, Held, PlanRefused, InputRefused, OutOfMemory, SinkFault}
use Rattle.lk_outside.specs.Files.{Files, Told}
use Rattle.run_stops.specs.Lines.{store_line, memory_line}
use Rattle.run_shell.specs.Outcome.{Outcome, IsFault, IsAnswer, Holds, HoldsPart, Unchanged}

-- the store failed if that is the status, and did not if there is an answer; out of memory may hide it
abbrev pub TellsStore : Status → Bool → Type 0
TellsStore StoreFault failed = failed ≡ true
TellsStore OutOfMemory failed = Unit {0}
TellsStore SinkFault failed = ⊥
TellsStore Done failed = failed ≡ false
TellsStore Usage failed = failed ≡ false
TellsStore Held failed = failed ≡ false
TellsStore PlanRefused failed = failed ≡ false
TellsStore InputRefused failed = failed ≡ false

-- a prefix of the text was added
abbrev pub AddsPart : List ℕ → List ℕ → List ℕ → Type 0
AddsPart text was now = (n : ℕ) × (n ≤ length text) × (now ≡ was ++ take n text)

abbrev pub AddsAll : List ℕ → List ℕ → List ℕ → Type 0
AddsAll text was now = now ≡ was ++ text

-- a fault of the sink replaces every status, if the store did not fail
abbrev pub sink_failed : Status → Bool → Status
sink_failed status false = SinkFault
sink_failed status true = status

-- what saying a text with a status came to
pub data Says (status : Status) (store_failed : Bool) (text : List ℕ) : Status → ℕ → ℕ → Option (List ℕ) → Option (List ℕ) → Type 0 where
  said : {before now : ℕ} {was is : Option (List ℕ)} → now ≡ before → Told was is (AddsAll text) → Says status store_failed text status before now was is
  cut_off : {before now : ℕ} {was is : Option (List ℕ)} → now ≡ before + 1 → Told was is (AddsPart text) → Says status store_failed text (sink_failed status store_failed) before now was is
  no_memory : {before now : ℕ} {was is : Option (List ℕ)} → now ≡ before → Told was is (AddsPart text) → Says status store_failed text OutOfMemory before now was is

-- there is an outcome with this status
abbrev pub Found : (Outcome → Type 0) → Status → Type 0
Found of status = (o : Outcome) × of o × (status ≡ o.status)

-- the status and the files after a run that has to come to this
pub record Settles (o : Outcome) (status : Status) (old new : Option Files) : Type 0 where
  pub answer : (status ≡ o.status) ⊎ IsFault status
  pub done : IsAnswer status → Told old new (Holds o.files)
  pub stopped : IsFault status → Told old new (HoldsPart o.files)

-- a text that may be there, whole or in part, if a run was stopped
abbrev pub IsText : Outcome → (List ℕ → Type 0) → List ℕ → Type 0
IsText o named text = (text ≡ o.text) ⊎ ((name : List ℕ) × named name × (text ≡ store_line name)) ⊎ (text ≡ memory_line)

-- the text after a run that has to come to this
pub record Tells (o : Outcome) (named : List ℕ → Type 0) (status : Status) (sink_before sink_now : ℕ) (was is : Option (List ℕ)) : Type 0 where
  pub whole : IsAnswer status → Told was is (AddsAll o.text)
  -- the whole line, or a prefix of it if the sink failed too
  pub store_fault : status ≡ StoreFault → (name : List ℕ) × named name × Told was is (AddsPart (store_line name)) × ((sink_before < sink_now) ⊎ Told was is (AddsAll (store_line name)))
  pub part : IsFault status → (text : List ℕ) × IsText o named text × Told was is (AddsPart text)

-- The line of the store's failure, by names that are read or created, those that are created, and those that are read late. `name` is
-- the name in the line.
pub record FaultsAt (named created late : List ℕ → Type 0) (sink_before sink_now : ℕ) (was is : Option (List ℕ)) (old new : Option Files) : Type 0 where
  pub name : List ℕ
  pub is_named : named name
  -- its line was said whole, or a prefix of it if the sink failed too
  pub part : Told was is (AddsPart (store_line name))
  pub whole : (sink_before < sink_now) ⊎ Told was is (AddsAll (store_line name))
  -- if the name in the line is of a file that is read before an output is created, no file has changed
  pub unchanged : (created name → ⊥) → (late name → ⊥) → Told old new Unchanged
