-- Steps of a run with any outputs, several of them open at a time.
use Rattle.std.specs.Prelude.{◌≡◌, ℕ, zero, suc, ◌+◌, ◌<◌, List, [], ◌∷◌, ◌++◌, length, take, drop, set, slice_index, Some, None}
use Rattle.lk_outside.specs.Files.{Files, file, Sets}
use Rattle.run_shell.specs.Outcome.{Output, Holds, content_of, cut}

abbrev pub name_at : List Output → ℕ → List ℕ
name_at [] i = []
name_at (o ∷ os) zero = o.name
name_at (o ∷ os) (suc i) = name_at os i

abbrev pub content_at : List Output → ℕ → List ℕ
content_at [] i = []
content_at (o ∷ os) zero = o.content
content_at (o ∷ os) (suc i) = content_at os i

-- no two outputs have one name
abbrev pub IsDistinct : List Output → Type 0
IsDistinct [] = Unit {0}
IsDistinct (o ∷ os) = (content_of os o.name ≡ None) × IsDistinct os

-- the next output is created
abbrev pub CreateGoesOn : Type 0
CreateGoesOn = (outputs : List Output) (lengths : List ℕ) (old mid new : Files) → IsDistinct outputs → length lengths < length outputs → Holds (cut outputs lengths) old mid → Sets (name_at outputs (length lengths)) (Some []) mid new → Holds (cut outputs (lengths ++ 0 ∷ [])) old new

-- one of the outputs that are there grows by what comes next of its content, whatever the others hold
abbrev pub AppendGoesOn : Type 0
AppendGoesOn = (outputs : List Output) (lengths : List ℕ) (i m : ℕ) (old mid new : Files) → IsDistinct outputs → i < length lengths → i < length outputs → Holds (cut outputs lengths) old mid → Sets (name_at outputs i) (Some (take (slice_index lengths i) (content_at outputs i) ++ take m (drop (slice_index lengths i) (content_at outputs i)))) mid new → Holds (cut outputs (set lengths i (slice_index lengths i + m))) old new

-- a file that is no output is read as it was, at any moment of the run
abbrev pub OthersStay : Type 0
OthersStay = (outputs : List Output) (lengths : List ℕ) (old mid : Files) (q : List ℕ) → content_of outputs q ≡ None → Holds (cut outputs lengths) old mid → file mid q ≡ file old q
