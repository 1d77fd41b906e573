-- What `check FILE` means: the words of a plan's words file are judged by the rules that a sender keeps.
use Rattle.std.specs.Prelude.{◌≡◌, ◌⊎◌, ℕ, List, [], ◌∷◌, ◌++◌, length, Some, Result, Ok, MatchResult}
use lib.Chars.{codes}
use Rattle.lk_base.specs.declared.word.RxWord.{RxWord}
use Rattle.lk_outside.specs.Files.{Files}
use Rattle.stream_model.specs.declared.rows.FlowRow.{FlowRow}
use Rattle.link_plan.specs.Plan.{PlanValue}
use Rattle.link_plan.specs.Listing.{channels_in_order}
use Rattle.link_plan.specs.Timed.{flow_of}
use Rattle.link_plan.specs.Views.{numbers_in}
use Rattle.plan_inputs.specs.Inputs.{plan_in, rows_in}
use Rattle.run_stops.specs.Reading.{Refusal, behind}
use Rattle.run_shell.specs.declared.status.Status.TheVariants.{Done}
use Rattle.run_shell.specs.Names.{words_name}
use Rattle.run_shell.specs.Outcome.{Outcome}
use Rattle.run_shell.specs.Meaning.{Meaning}
use Rattle.run_shell.specs.Work.{Work, meaning_by}
use Rattle.word_rules.specs.Faults.{Plan, faults}
use Rattle.word_rules.specs.declared.fault.Fault.{Fault}
use Rattle.word_rules.specs.Limits.{limits_of}
use Rattle.run_stops.specs.WordsInputs.{words_in}
use Rattle.check_commands.specs.Table.{check_text, faults_table}

-- ---- what is read

-- a plan, the rows of its flow file, and the words of its words file
pub record CheckInputs : Type 0 where
  pub plan : PlanValue
  pub flow : List FlowRow
  pub words : List RxWord

abbrev pub with_words : Files → PlanValue → List FlowRow → Result CheckInputs Refusal
with_words files plan flow = behind (words_in files (words_name plan.out)) (λ words. Ok (record { plan = plan; flow = flow; words = words }))

abbrev pub with_flow : Files → PlanValue → Result CheckInputs Refusal
with_flow files plan = behind (rows_in files [] flow_of plan.flow) (with_words files plan)

-- the plan in the file of this name, after it the rows of the flow file, where the plan names one, and then the words of the
-- words file
abbrev pub check_inputs_in : Files → List ℕ → Result CheckInputs Refusal
check_inputs_in files name = behind (plan_in files name) (with_flow files)

-- the flow file of a plan, or its words file
abbrev pub IsOfPlan : PlanValue → List ℕ → Type 0
IsOfPlan plan q = (plan.flow ≡ Some q) ⊎ (q ≡ words_name plan.out)

-- the plan's own file, and where it is accepted its flow file and its words file
abbrev pub IsReadFor : List ℕ → Files → List ℕ → Type 0
IsReadFor name files q = (q ≡ name) ⊎ MatchResult (plan_in files name) (λ plan. IsOfPlan plan q) (λ r. ⊥)

-- ---- what is made of it

-- what the words are judged by: the plan's numbers, its listed channels in order of number, its calendar, and the rows of flow
-- control
abbrev pub rules_of : PlanValue → List FlowRow → Plan
rules_of plan flow = record { limits = limits_of plan; channels = channels_in_order (numbers_in plan); entries = plan.entries; flow = flow }

-- the faults of the words, by the rules
abbrev pub faults_found : CheckInputs → List Fault
faults_found i = faults (rules_of i.plan i.flow) i.words

-- the name of the table
abbrev pub faults_name : List ℕ → List ℕ
faults_name out = out ++ codes ".faults.csv"

-- the one table of these faults, under a prefix, and the text that counts them
abbrev pub told_outcome : List ℕ → ℕ → List Fault → Outcome
told_outcome out words found = record {
  status = Done;
  files = record { name = faults_name out; content = faults_table found } ∷ [];
  text = check_text words found;
}

-- all faults of the words, told
abbrev pub IsChecked : CheckInputs → Outcome → Type 0
IsChecked i o = o ≡ told_outcome i.plan.out (length i.words) (faults_found i)

-- The words of the plan's words file are judged, and their faults told in a table, under a name that begins with the plan's
-- `out`. Words that have faults are an answer, too: no stream is held.
abbrev pub check_work : List ℕ → Work
check_work name = record {
  Inputs = CheckInputs;
  inputs_in = λ files. check_inputs_in files name;
  IsMade = IsChecked;
  IsHeld = λ i. ⊥;
  Creates = λ i q. q ≡ faults_name i.plan.out;
  Names = IsReadFor name;
  IsReadLate = λ files q. ⊥;
}

abbrev pub check_meaning : List ℕ → Meaning
check_meaning name = meaning_by (check_work name)
