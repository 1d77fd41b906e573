-- Why the work of a command stopped: its line, and the store's count.
use Rattle.std.specs.Prelude.{Bool, true, false, ◌≡◌, ℕ, ◌+◌, List, ◌++◌, Result, Ok, Err, string_bytes}
use lib.Chars.{codes}
use Rattle.plan_errors.specs.Texts.{refusal_text as rows_text}
use Rattle.run_stops.specs.Lines.{why_text, plan_line, input_line, store_line, memory_line}
use Rattle.run_stops.specs.declared.stop.Stop.{Stop}
use Rattle.run_stops.specs.declared.stop.Stop.TheVariants as stop

-- what is said of it, with no line end
abbrev pub stop_words : Stop → List ℕ
stop_words (stop.Plan why) = codes "plan refused: " ++ rows_text why
stop_words (stop.Input name why) = codes "input refused: " ++ (string_bytes name ++ (codes ": " ++ why_text why))
stop_words (stop.Store name) = codes "store fault: " ++ string_bytes name
stop_words stop.StoreNoMemory = codes "out of memory"
stop_words stop.OutOfMemory = codes "out of memory"

-- the one line of it
abbrev pub stop_text : Stop → List ℕ
stop_text (stop.Plan why) = plan_line why
stop_text (stop.Input name why) = input_line (string_bytes name) why
stop_text (stop.Store name) = store_line (string_bytes name)
stop_text stop.StoreNoMemory = memory_line
stop_text stop.OutOfMemory = memory_line

-- true if the store failed
abbrev pub is_of_store : Stop → Bool
is_of_store (stop.Plan why) = false
is_of_store (stop.Input name why) = false
is_of_store (stop.Store name) = true
is_of_store stop.StoreNoMemory = true
is_of_store stop.OutOfMemory = false

-- the store's count rose by one if the store failed, and only then
abbrev pub StoreCount : Bool → ℕ → ℕ → Type 0
StoreCount true before now = now ≡ before + 1
StoreCount false before now = now ≡ before

abbrev pub StopCount : {T : Type 0} → Result T Stop → ℕ → ℕ → Type 0
StopCount (Ok _) before now = now ≡ before
StopCount (Err (stop.Plan why)) before now = now ≡ before
StopCount (Err (stop.Input name why)) before now = now ≡ before
StopCount (Err (stop.Store name)) before now = now ≡ before + 1
StopCount (Err stop.StoreNoMemory) before now = now ≡ before + 1
StopCount (Err stop.OutOfMemory) before now = now ≡ before

-- the only stops are of this file in the store, and of memory
abbrev pub IsOfStore : (List ℕ → Type 0) → Stop → Type 0
IsOfStore named (stop.Plan why) = ⊥
IsOfStore named (stop.Input n why) = ⊥
IsOfStore named (stop.Store n) = named (string_bytes n)
IsOfStore named stop.StoreNoMemory = Unit {0}
IsOfStore named stop.OutOfMemory = Unit {0}

abbrev pub StoreStops : {T : Type 0} → (List ℕ → Type 0) → Result T Stop → Type 0
StoreStops named (Ok _) = Unit {0}
StoreStops named (Err s) = IsOfStore named s
