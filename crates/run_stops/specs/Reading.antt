-- Inputs of a command that are read one after another: all of them, or the first that is refused.
use Rattle.std.specs.Prelude.{◌≡◌, ℕ, List, length, nat_lt, Option, Some, None, IsSomeAnd, Result, Ok, Err, Vec, string_bytes, if◌then◌else◌}
use Rattle.std.specs.declared.alloc.Global.{Global}
use Rattle.run_stops.specs.declared.input_error.InputError.{InputError}
use Rattle.run_stops.specs.declared.input_error.InputError.TheVariants as refused
use Rattle.plan_errors.specs.declared.error.PlanError.{PlanError}
use Rattle.plan_errors.specs.declared.error.PlanError.TheVariants as plans
use Rattle.lk_outside.specs.Files.{Files, file}
use Rattle.lk_outside.specs.Reads as lk_reads
use Rattle.run_stops.specs.declared.stop.Stop.{Stop}
use Rattle.run_stops.specs.declared.stop.Stop.TheVariants as stop

-- why the inputs of a command are not had
pub data Refusal : Type 0 where
  of_plan : PlanError → Refusal
  of_input : List ℕ → InputError → Refusal

-- what is read next, after what was read
abbrev pub behind : {A B : Type 0} → Result A Refusal → (A → Result B Refusal) → Result B Refusal
behind (Ok a) next = next a
behind (Err r) next = Err r

-- the bytes of a file that may be there, of at most this many
abbrev pub bytes_by : List ℕ → ℕ → Option (List ℕ) → Result (List ℕ) Refusal
bytes_by name limit None = Err (of_input name refused.NoFile)
bytes_by name limit (Some bytes) = if nat_lt limit (length bytes) then Err (of_input name refused.TooLarge) else Ok bytes

abbrev pub bytes_in : Files → List ℕ → ℕ → Result (List ℕ) Refusal
bytes_in files name limit = bytes_by name limit (file files name)

-- the bytes of a plan, of at most this many
abbrev pub plan_by : ℕ → Option (List ℕ) → Result (List ℕ) Refusal
plan_by limit None = Err (of_plan plans.NoFile)
plan_by limit (Some bytes) = if nat_lt limit (length bytes) then Err (of_plan plans.TooLarge) else Ok bytes

abbrev pub plan_bytes : Files → List ℕ → ℕ → Result (List ℕ) Refusal
plan_bytes files name limit = plan_by limit (file files name)

-- ---- what reading came to

abbrev pub vec_items : Vec ℕ Global → List ℕ
vec_items v = v.items

-- the only stop is that this input is refused so, or memory
abbrev pub IsOfInput : List ℕ → InputError → Stop → Type 0
IsOfInput name why (stop.Plan p) = ⊥
IsOfInput name why (stop.Input n w) = (string_bytes n ≡ name) × (w ≡ why)
IsOfInput name why (stop.Store n) = ⊥
IsOfInput name why stop.StoreNoMemory = ⊥
IsOfInput name why stop.OutOfMemory = Unit {0}

-- what was read is this, and a refusal is this one, unless the store, at one of these names, or memory stopped it
abbrev pub Reads : {T V : Type 0} → (T → V) → (List ℕ → Type 0) → Result T Stop → Result V Refusal → Type 0
Reads value named (Ok t) answer = answer ≡ Ok (value t)
Reads value named (Err (stop.Plan why)) answer = answer ≡ Err (of_plan why)
Reads value named (Err (stop.Input n why)) answer = answer ≡ Err (of_input (string_bytes n) why)
Reads value named (Err (stop.Store n)) answer = named (string_bytes n)
Reads value named (Err stop.StoreNoMemory) answer = Unit {0}
Reads value named (Err stop.OutOfMemory) answer = Unit {0}

-- ---- an input that is read in pieces

-- what was asked for can be had, and a refusal is this one, unless the store, at one of these names, or memory stopped it
abbrev pub Probes : {T V : Type 0} → (List ℕ → Type 0) → Result T Stop → Result V Refusal → Type 0
Probes {T} {V} named (Ok _) answer = (value : V) × (answer ≡ Ok value)
Probes {T} {V} named (Err s) answer = Reads {T = V} (λ v. v) named (Err s) answer

-- the bytes at this offset were read, or the file is absent, unless the store, at this name, or memory stopped it
abbrev pub ReadsPiece : Result ℕ Stop → List ℕ → ℕ → List ℕ → Files → Type 0
ReadsPiece (Ok n) name offset buf files = IsSomeAnd (file files name) (λ bytes. lk_reads.Reads bytes offset n buf)
ReadsPiece (Err (stop.Plan why)) name offset buf files = ⊥
ReadsPiece (Err (stop.Input n why)) name offset buf files = (string_bytes n ≡ name) × (why ≡ refused.NoFile) × (file files name ≡ None)
ReadsPiece (Err (stop.Store n)) name offset buf files = string_bytes n ≡ name
ReadsPiece (Err stop.StoreNoMemory) name offset buf files = Unit {0}
ReadsPiece (Err stop.OutOfMemory) name offset buf files = Unit {0}
