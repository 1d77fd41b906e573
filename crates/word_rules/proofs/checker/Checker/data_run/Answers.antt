-- The run is taken without faults, or word by word.
use Rattle.std.proofs.Common.{ℕ, ◌++◌, ◌∙◌, ap, sym, subst, append-nil, List, map}
use Rattle.lk_base.specs.declared.word.RxWord.TheVariants.{Data}
use Rattle.word_rules.specs.Checks.{Keeps}
use Rattle.word_rules.specs.Faults.{faults_from}
use Rattle.word_rules.specs.declared.checker.Checker.{Checker}
use Rattle.word_rules.specs.declared.fault.Fault.{Fault}
use Rattle.word_rules.proofs.checker.Checker.data_run.Goals as goal

pub returns-then-faultless_run-clause-rows : goal.returns-then-faultless_run-clause-rows
returns-then-faultless_run-clause-rows c p e k =
    let found : List Fault = c.args.faults.now.items in
    sym (ap (λ (l : List Fault). found ++ l) (c.if-faultless_run.ensures.rows p e k) ∙ append-nil found)

pub returns-clause-rows : goal.returns-clause-rows
returns-clause-rows c p e k =
    c.each_data.ensures.rows p e (subst (λ (t : Checker). Keeps t p e) (sym c.if-faultless_run.ensures.same) k)
    ∙ ap (λ (l : List Fault). l ++ faults_from p e (map (λ (x : ℕ). Data x) c.args.run.now)) c.in_ok-reserve.ensures.items

pub returns-clause-keeps : goal.returns-clause-keeps
returns-clause-keeps c p e k = c.each_data.ensures.keeps p e (subst (λ (t : Checker). Keeps t p e) (sym c.if-faultless_run.ensures.same) k)
