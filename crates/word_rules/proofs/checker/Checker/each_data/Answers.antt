use Rattle.std.proofs.Common.{ℕ, ◌≡◌, ◌^◌, ◌++◌, ◌∙◌, ap, sym, subst, append_assoc, append-nil, List, None, length, take, map, arith}
use Rattle.lk_base.specs.declared.word.RxWord.{RxWord}
use Rattle.lk_base.specs.declared.word.RxWord.TheVariants.{Data}
use Rattle.word_rules.specs.declared.fault.Fault.{Fault}
use Rattle.word_rules.specs.Checks.{Keeps}
use Rattle.word_rules.specs.Faults.{data_rows, faults_from}
use Rattle.word_rules.specs.Runs.{run_after}
use Rattle.word_rules.proofs.Making.{take_whole}
use Rattle.word_rules.proofs.Runs.{run_at, rows_at, run_few}
use Rattle.word_rules.proofs.checker.Checker.each_data.Goals as goal

pub loop-i-init : goal.loop-i-init
loop-i-init c = record { keeps = λ p e k. k; rows = λ p e k. sym (append-nil c.args.faults.now.items); few = omega arith; room = omega arith }

pub data-requires : goal.data-requires
data-requires c =
    let (p, e, k, few) = c.requires.keeps in
    (p, run_after e (take c.loop-i.i c.args.run.now), c.loop-i.invariant.keeps p e k, run_few e c.args.run.now c.loop-i.i (2 ^ 57) few)

pub loop-i-preserved : goal.loop-i-preserved
loop-i-preserved c =
    let i : ℕ = c.loop-i.i in
    let run : List ℕ = c.args.run.now in
    let first : List Fault = c.args.faults.now.items in
    record {
      keeps = λ p e k.
          subst (λ (before : List RxWord). Keeps c.data.new.self p before) (sym (run_at e run i 0 c.loop-i-test.true))
          (c.in-Ok.ensures.keeps p (run_after e (take i run)) (c.loop-i.invariant.keeps p e k));
      rows = λ p e k.
          c.in-Ok.ensures.rows p (run_after e (take i run)) None (c.loop-i.invariant.keeps p e k)
          ∙ ap (λ (l : List Fault). l ++ data_rows p.limits (run_after e (take i run))) (c.loop-i.invariant.rows p e k)
          ∙ append_assoc first (faults_from p e (map (λ (x : ℕ). Data x) (take i run))) (data_rows p.limits (run_after e (take i run)))
          ∙ ap (λ (l : List Fault). first ++ l) (sym (rows_at p e run i 0 c.loop-i-test.true));
      few = (let a = c.in-Ok.ensures.few in let b = c.loop-i.invariant.few in omega (arith, a, b));
      room = (let a = c.in-Ok.ensures.kept in let b = c.loop-i.invariant.room in omega (arith, a, b));
    }

pub returns-clause-rows : goal.returns-clause-rows
returns-clause-rows c p e k =
    let run : List ℕ = c.args.run.now in
    let end : c.loop-i.i ≡ length run = omega arith in
    c.loop-i.invariant.rows p e k
    ∙ ap (λ (l : List ℕ). c.args.faults.now.items ++ faults_from p e (map (λ (x : ℕ). Data x) l)) (ap (λ (n : ℕ). take n run) end ∙ take_whole run)

pub returns-clause-keeps : goal.returns-clause-keeps
returns-clause-keeps c p e k =
    let run : List ℕ = c.args.run.now in
    let end : c.loop-i.i ≡ length run = omega arith in
    subst (λ (l : List ℕ). Keeps c.loop-i.self p (run_after e l)) (ap (λ (n : ℕ). take n run) end ∙ take_whole run) (c.loop-i.invariant.keeps p e k)
