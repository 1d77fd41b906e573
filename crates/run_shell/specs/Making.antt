-- A command's work once it has its inputs: steps that give bytes to outputs, and see no store.
use Rattle.std.specs.Prelude.{ℕ, List, Result, Ok, Err, Option}
use Rattle.lk_outside.specs.Files.{Files, Told}
use Rattle.run_stops.specs.declared.stop.Stop.{Stop}
use Rattle.run_shell.specs.declared.finished.Finished.{Finished}
use Rattle.run_shell.specs.declared.step.Step.{Step}
use Rattle.run_shell.specs.declared.step.Step.TheVariants as step
use Rattle.run_shell.specs.Open.{Open}
use Rattle.run_shell.specs.Outcome.{Outcome, HoldsPart}
use Rattle.run_shell.specs.Outputs.{outs, IsOpen}
use Rattle.run_shell.specs.Writing.{Begin, delivered}

-- ---- one step

-- this holds if there is more to do
abbrev pub IfMore : Type 0 → Step → Type 0
IfMore more step.More = more
IfMore more (step.Done f) = Unit {0}

-- this holds if all is done
abbrev pub IfDone : (Finished → Type 0) → Step → Type 0
IfDone done step.More = Unit {0}
IfDone done (step.Done f) = done f

-- one holds if there is more to do, and the other if all is done
abbrev pub Goes : Type 0 → (Finished → Type 0) → Step → Type 0
Goes more done step.More = more
Goes more done (step.Done f) = done f

-- ---- steps on outputs that are open

-- each of these outcomes has files of these names that begin with these contents
abbrev pub AllBegin : (Outcome → Type 0) → List (List ℕ) → List (List ℕ) → Type 0
AllBegin of names given = (o : Outcome) → of o → Begin names given o.files

-- one step was taken: the outputs were given what the maker gave, or what an outcome has; or, after an error, a part of what each
-- outcome has is there
abbrev pub Stepped : (Outcome → Type 0) → List (List ℕ) → (List (List ℕ) → Type 0) → List Open → Result Step Stop → Option Files → Option Files → Type 0
Stepped of names gave opens (Ok s) was now = (given : List (List ℕ)) × Goes (gave given) (λ f. of (delivered names given f)) s × IsOpen opens given was now
Stepped of names gave opens (Err _) was now = (given : List (List ℕ)) × AllBegin of names given × Told was now (HoldsPart (outs names given))

-- all steps were taken: the outputs were given what an outcome has; or, after an error, a part of what each outcome has is there
abbrev pub Worked : (Outcome → Type 0) → List (List ℕ) → List Open → Result Finished Stop → Option Files → Option Files → Type 0
Worked of names opens (Ok f) was now = (given : List (List ℕ)) × AllBegin of names given × of (delivered names given f) × IsOpen opens given was now
Worked of names opens (Err _) was now = (given : List (List ℕ)) × AllBegin of names given × Told was now (HoldsPart (outs names given))
