-- What a live checker holds.
use Rattle.std.specs.Prelude.{ℕ, Bool, List, drop}
use Rattle.word_rules.specs.declared.checker.Checker.{Checker}
use Rattle.word_rules.specs.declared.fault.Fault.{Fault}

pub record State : Type 0 where
  pub checker : Checker
  -- the faults that are due
  pub due : List Fault
  pub finished : Bool

-- of the faults that the last word showed, so many were given
abbrev pub state : Checker → List Fault → ℕ → Bool → State
state checker found given finished = record { checker = checker; due = drop given found; finished = finished }
