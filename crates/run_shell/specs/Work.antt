-- A command by what it reads.
use Rattle.std.specs.Prelude.{◌≡◌, ◌⊎◌, ℕ, List, [], Result, Ok, MatchResult}
use Rattle.lk_outside.specs.Files.{Files, AreBytes}
use Rattle.run_stops.specs.Lines.{plan_line, input_line}
use Rattle.run_stops.specs.Reading.{Refusal, of_plan, of_input}
use Rattle.run_shell.specs.declared.status.Status.TheVariants.{Done, Held, PlanRefused, InputRefused}
use Rattle.run_shell.specs.Outcome.{Outcome}
use Rattle.run_shell.specs.Meaning.{Meaning}

-- what a refusal comes to: nothing is created
abbrev pub refused_outcome : Refusal → Outcome
refused_outcome (of_plan why) = record { status = PlanRefused; files = []; text = plan_line why }
refused_outcome (of_input name why) = record { status = InputRefused; files = []; text = input_line name why }

abbrev pub IsOfPlan : Refusal → Type 0
IsOfPlan (of_plan why) = Unit {0}
IsOfPlan (of_input name why) = ⊥

abbrev pub IsOfInputs : Refusal → Type 0
IsOfInputs (of_plan why) = ⊥
IsOfInputs (of_input name why) = Unit {0}

pub record Work : Type 1 where
  -- what it reads
  pub Inputs : Type 0
  pub inputs_in : Files → Result Inputs Refusal
  -- what it makes of its inputs, with `Done` or `Held`
  pub IsMade : Inputs → Outcome → Type 0
  -- bytes are left at the finish
  pub IsHeld : Inputs → Type 0
  -- the names that it creates, of its inputs
  pub Creates : Inputs → List ℕ → Type 0
  -- the names that it reads
  pub Names : Files → List ℕ → Type 0
  -- those that it reads when an output may already be there
  pub IsReadLate : Files → List ℕ → Type 0

abbrev pub meaning_by : Work → Meaning
meaning_by w = record {
  IsOutcome = λ files o. MatchResult (w.inputs_in files) (λ i. w.IsMade i o) (λ r. o ≡ refused_outcome r);
  Creates = λ files q. MatchResult (w.inputs_in files) (λ i. w.Creates i q) (λ r. ⊥);
  Names = λ files q. w.Names files q ⊎ MatchResult (w.inputs_in files) (λ i. w.Creates i q) (λ r. ⊥);
  IsReadLate = w.IsReadLate;
  IsPlanRefused = λ files. MatchResult (w.inputs_in files) (λ i. ⊥) IsOfPlan;
  IsInputRefused = λ files. MatchResult (w.inputs_in files) (λ i. ⊥) IsOfInputs;
  IsHeld = λ files. MatchResult (w.inputs_in files) w.IsHeld (λ r. ⊥);
}

-- what a work has to bring: its inputs have at most one outcome; there is one if files hold bytes; and it is held if bytes are left, and
-- only then
pub record IsWork (w : Work) : Type 0 where
  pub one_made : (i : w.Inputs) (o p : Outcome) → w.IsMade i o → w.IsMade i p → o ≡ p
  pub some_made : (files : Files) → AreBytes files → (i : w.Inputs) → w.inputs_in files ≡ Ok i → (o : Outcome) × w.IsMade i o
  pub made_status : (i : w.Inputs) (o : Outcome) → w.IsMade i o → ((o.status ≡ Held) × w.IsHeld i) ⊎ ((o.status ≡ Done) × (w.IsHeld i → ⊥))
