-- What the maker of the table gave begins the table of all faults.
use Rattle.std.proofs.Common.{◌≡◌, ℕ, ◌+◌, ◌<◌, ◌≤◌, Bool, true, false, List, [], ◌∷◌, ◌++◌, length, reverse, take, drop, cond, append-nil, append_assoc, refl, sym, ap, ◌∙◌, subst, arith}
use Rattle.std.proofs.lemmas.List.{drop_all}
use Rattle.lk_base.specs.declared.word.RxWord.{RxWord}
use Rattle.run_shell.specs.declared.finished.Finished.{Finished}
use Rattle.run_shell.specs.Outcome.{Outcome}
use Rattle.run_shell.specs.Outputs.{more}
use Rattle.run_shell.specs.Writing.{Begin, delivered}
use Rattle.run_shell.proofs.MakersWork.{one_delivered}
use Rattle.csv_rows.specs.Written.{rows_text}
use Rattle.word_rules.specs.Checks.{Keeps}
use Rattle.word_rules.specs.Faults.{Plan, faults, faults_from}
use Rattle.word_rules.specs.declared.checker.Checker.{Checker}
use Rattle.word_rules.specs.declared.fault.Fault.{Fault}
use Rattle.check_commands.specs.Check.{CheckInputs, IsChecked, faults_found, faults_name}
use Rattle.check_commands.specs.Making.{GaveFaults, rules_in}
use Rattle.check_commands.specs.Table.{check_text, fault_rows, faults_table, heading}
use Rattle.check_commands.specs.Tally.{IsTally}
use Rattle.check_commands.specs.Values.{inputs_value}
use Rattle.check_commands.specs.declared.inputs.CheckInputs as code
use Rattle.check_commands.specs.declared.tally.Tally.{Tally}
use Rattle.check_commands.proofs.Tables.{table_begins, table_more, table_none}

pub one_checked : (i : CheckInputs) (o p : Outcome) → IsChecked i o → IsChecked i p → o ≡ p
one_checked i o p h k = h ∙ sym k

-- nothing, or the table of the faults so far, begins that of all
content_begins : (begun : Bool) (told rest all : List Fault) → told ++ rest ≡ all → (more : List ℕ) × (faults_table all ≡ cond begun (faults_table told) [] ++ more)
content_begins true told rest all e = (table_begins told rest all e).0
content_begins false told rest all e = (faults_table all, refl)

-- no word is left
all_told : (p : Plan) (words : List RxWord) (judged : ℕ) (told : List Fault) → judged ≡ length words → told ++ faults_from p (reverse (take judged words)) (drop judged words) ≡ faults p words → told ≡ faults p words
all_told p words judged told end e =
    sym (append-nil told) ∙ ap (λ (l : List RxWord). told ++ faults_from p (reverse (take judged words)) l) (sym (drop_all judged words (omega (arith, end)))) ∙ e

module _ (r : code.CheckInputs) (checker : Checker) (tally : Tally) (judged : ℕ) (given : List (List ℕ)) where
  pub gave_same : (was begun : Bool) → was ≡ begun → GaveFaults r checker tally was judged given → GaveFaults r checker tally begun judged given
  gave_same was begun e g = subst (λ (b : Bool). GaveFaults r checker tally b judged given) e g

  abbrev name : List ℕ
  name = faults_name (inputs_value r).plan.out

  pub gave_begins : (begun : Bool) (o : Outcome) → GaveFaults r checker tally begun judged given → IsChecked (inputs_value r) o → Begin (name ∷ []) given o.files
  gave_begins begun o g is =
      subst (λ (gs : List (List ℕ)). Begin (name ∷ []) gs o.files) (sym g.is)
      (faults_table (faults_found (inputs_value r)) ∷ [], ap (λ (p : Outcome). p.files) is, (content_begins begun g.told _ _ g.are, tt))

  -- the heading
  pub heading_gave : (bytes : List ℕ) → GaveFaults r checker tally false judged given → bytes ≡ rows_text (heading ∷ []) → GaveFaults r checker tally true judged (more given 0 bytes)
  heading_gave bytes g is = record {
    order = g.order;
    few = g.few;
    within = g.within;
    keeps = g.keeps;
    told = g.told;
    are = g.are;
    counted = g.counted;
    none = λ e. absurd (cc);
    is = ap (λ (gs : List (List ℕ)). more gs 0 bytes) g.is ∙ ap (λ (b : List ℕ). b ∷ []) (is ∙ table_none ∙ ap faults_table (sym (g.none refl)));
  }

  module _ (g : GaveFaults r checker tally true judged given) where
    -- the faults of the words up to number `to`
    pub block_gave : (next : Checker) (counts : Tally) (to : ℕ) (found : List Fault) (bytes : List ℕ) → to ≤ length r.words → Keeps next (rules_in r) (reverse (take to r.words))
        → found ++ faults_from (rules_in r) (reverse (take to r.words)) (drop to r.words) ≡ faults_from (rules_in r) (reverse (take judged r.words)) (drop judged r.words) → IsTally counts (g.told ++ found) → bytes ≡ fault_rows found
        → GaveFaults r next counts true to (more given 0 bytes)
    block_gave next counts to found bytes within keeps are counted is = record {
      order = g.order;
      few = g.few;
      within = within;
      keeps = keeps;
      told = g.told ++ found;
      are = append_assoc g.told found (faults_from (rules_in r) (reverse (take to r.words)) (drop to r.words)) ∙ ap (λ (l : List Fault). g.told ++ l) are ∙ g.are;
      counted = counted;
      none = λ e. absurd (cc);
      is = ap (λ (gs : List (List ℕ)). more gs 0 bytes) g.is ∙ ap (λ (b : List ℕ). (faults_table g.told ++ b) ∷ []) is ∙ ap (λ (b : List ℕ). b ∷ []) (table_more g.told found);
    }

    -- all words were judged
    pub all_done : (f : Finished) → judged ≡ length r.words → f.held ≡ false → f.text.items ≡ check_text (length r.words) g.told → IsChecked (inputs_value r) (delivered (name ∷ []) given f)
    all_done f end free text =
        let all = faults_found (inputs_value r) in
        let same : g.told ≡ all = all_told (rules_in r) r.words judged g.told end g.are in
        one_delivered name given (faults_table all) (check_text (length r.words) all) f (g.is ∙ ap (λ (l : List Fault). faults_table l ∷ []) same) free (text ∙ ap (check_text (length r.words)) same)

-- less is left after the heading
pub begun_less : (begun : Bool) (n : ℕ) → begun ≡ false → cond true 0 1 + n < cond begun 0 1 + n
begun_less true n e = absurd (cc)
begun_less false n e = omega arith
