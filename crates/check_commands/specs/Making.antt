-- What the maker of the table of faults gave so far.
use Rattle.std.specs.Prelude.{◌≡◌, ◌≤◌, ◌<◌, ◌^◌, ℕ, Bool, false, List, [], ◌∷◌, ◌++◌, cond, length, reverse, take, drop}
use Rattle.std.specs.List.Sorted.{IsNonDecreasingBy}
use Rattle.stream_model.specs.declared.rows.FlowRow.{FlowRow}
use Rattle.link_plan.specs.Views.{plan_value}
use Rattle.word_rules.specs.Checks.{Keeps}
use Rattle.word_rules.specs.Faults.{Plan, faults, faults_from}
use Rattle.word_rules.specs.declared.checker.Checker.{Checker}
use Rattle.word_rules.specs.declared.fault.Fault.{Fault}
use Rattle.check_commands.specs.Check.{rules_of}
use Rattle.check_commands.specs.Table.{faults_table}
use Rattle.check_commands.specs.Tally.{IsTally}
use Rattle.check_commands.specs.declared.inputs.CheckInputs.{CheckInputs}
use Rattle.check_commands.specs.declared.tally.Tally.{Tally}

-- the rules by which the words are judged
abbrev pub rules_in : CheckInputs → Plan
rules_in r = rules_of (plan_value r.plan) r.flow.items

-- nothing, or the heading and the faults of the words that were judged, which are counted; with those of the other words they are all
pub record GaveFaults (r : CheckInputs) (checker : Checker) (tally : Tally) (begun : Bool) (judged : ℕ) (given : List (List ℕ)) : Type 0 where
  pub order : IsNonDecreasingBy (λ (row : FlowRow). row.slot) r.flow.items
  pub few : length r.words < 2 ^ 32
  pub within : judged ≤ length r.words
  pub keeps : Keeps checker (rules_in r) (reverse (take judged r.words))
  pub told : List Fault
  pub are : told ++ faults_from (rules_in r) (reverse (take judged r.words)) (drop judged r.words) ≡ faults (rules_in r) r.words
  pub counted : IsTally tally told
  pub none : begun ≡ false → told ≡ []
  pub is : given ≡ cond begun (faults_table told) [] ∷ []
