-- What is said of a run that came to an answer.
use Rattle.std.specs.Prelude.{◌≡◌, ℕ, List, Option}
use Rattle.lk_outside.specs.Files.{Files, Told}
use Rattle.run_shell.specs.declared.status.Status.{Status}
use Rattle.run_shell.specs.Outcome.{Outcome, Holds}
use Rattle.interlaken.specs.Run.{OutcomeOf}

-- the outcome that was answered, whose files stand, and what is said of it
pub record Answers (Says : Outcome → Type 0) (words : List (List ℕ)) (files : Files) (its_status : Status) (old new : Option Files) : Type 0 where
  pub outcome : Outcome
  pub is_outcome : OutcomeOf words files outcome
  pub status : its_status ≡ outcome.status
  pub stands : Told old new (Holds outcome.files)
  pub says : Says outcome

-- this is what was answered: its status, and its files, which stand
pub record IsAnswered (o : Outcome) (its_status : Status) (old new : Option Files) : Type 0 where
  pub status : its_status ≡ o.status
  pub stands : Told old new (Holds o.files)
