-- The law on `check` after `burst`.
use Rattle.std.specs.Prelude.{◌≡◌, ◌≤◌, ℕ, List, [], ◌∷◌, ◌++◌, length, Ok, Some}
use lib.Chars.{codes}
use Rattle.lk_base.specs.Limits.{words_limit}
use Rattle.lk_base.specs.declared.word.Word.{Word}
use Rattle.lk_outside.specs.Files.{Files, file, AreBytes}
use Rattle.link_plan.specs.Timed.{flow_of}
use Rattle.link_reports.specs.Lines.{count_line, line_end}
use Rattle.plan_inputs.specs.Inputs.{Reading, plan_in, planned_in, rows_in}
use Rattle.run_shell.specs.declared.status.Status.TheVariants.{Done}
use Rattle.run_shell.specs.Names.{words_name}
use Rattle.run_shell.specs.Outcome.{Outcome, content_of}
use Rattle.stream_commands.specs.Outputs.{IsWordsFile}
use Rattle.stream_commands.specs.Plan.{IsOfPlan, burst_plan_work}
use Rattle.check_commands.specs.Check.{check_meaning, faults_name}

-- of this many words none has a fault: the table is its heading alone, and the text counts the words and no fault
pub record TellsNoFault (out : List ℕ) (words : ℕ) (o : Outcome) : Type 0 where
  pub status : o.status ≡ Done
  pub table : o.files ≡ record { name = faults_name out; content = codes "word,rule,channel" ++ line_end } ∷ []
  pub text : o.text ≡ count_line (codes "words") words ++ (codes "faults 0" ++ line_end)

-- `check` after `burst` of one plan, whose inputs were accepted, tells no fault of the words that `burst` wrote: where the plan
-- stands, its flow file is read as the rows that `burst` read, and its words file holds what `burst` gave to it, within the limit of
-- words files
abbrev pub CheckAfterBurst : Type 0
CheckAfterBurst = (name : List ℕ) (i : Reading) (burst check : Outcome) (before files : Files) (content : List ℕ) →
    AreBytes before → planned_in before name ≡ Ok i → (burst_plan_work name).IsMade i burst →
    plan_in files name ≡ Ok i.plan → rows_in files [] flow_of i.plan.flow ≡ Ok i.inputs.flow →
    content_of burst.files (words_name i.plan.out) ≡ Some content → file files (words_name i.plan.out) ≡ Some content →
    length content ≤ words_limit → (check_meaning name).IsOutcome files check →
    (w : List Word) × IsOfPlan (IsWordsFile i.plan.out) i w burst × TellsNoFault i.plan.out (length w) check
