use Rattle.std.proofs.Common.{◌≡◌, ◌++◌, ap, subst, ◌∙◌, arith, List, ℕ, reverse, take, drop}
use Rattle.word_rules.specs.declared.fault.Fault.{Fault}
use Rattle.word_rules.specs.Checks.{Keeps}
use Rattle.word_rules.specs.Faults.{faults_from}
use Rattle.check_commands.proofs.pass.block_faults.Goals as goal

pub loop-number-init : goal.loop-number-init
loop-number-init c = record {
  upto = c.requires.first;
  keeps = λ p k. k;
  found = λ p k o. ap (λ (l : List Fault). l ++ faults_from p (reverse (take c.args.from c.args.words.now)) (drop c.args.from c.args.words.now)) c.new-found.ensures.items;
}

pub next_faults-requires-clause-keeps : goal.next_faults-requires-clause-keeps
next_faults-requires-clause-keeps c = let (p, k) = c.requires.keeps in (p, c.loop-number.invariant.keeps p k)

pub loop-number-preserved : goal.loop-number-preserved
loop-number-preserved c = record {
  upto = c.in_ok-number.ensures.upto;
  keeps = λ p k. c.in_ok-number.ensures.keeps p (c.loop-number.invariant.keeps p k);
  found = λ p k o. c.in_ok-number.ensures.found p (c.loop-number.invariant.keeps p k) o ∙ c.loop-number.invariant.found p k o;
}

pub returns-clause-keeps : goal.returns-clause-keeps
returns-clause-keeps c = λ p k.
    let u = c.loop-number.invariant.upto in
    let b = c.loop-number-test.false in
    let end : c.loop-number.number ≡ c.args.to = omega (arith, u, b) in
    subst (λ (n : ℕ). Keeps c.loop-number.checker p (reverse (take n c.args.words.now))) end (c.loop-number.invariant.keeps p k)

pub returns-clause-found : goal.returns-clause-found
returns-clause-found c = λ p k o.
    let u = c.loop-number.invariant.upto in
    let b = c.loop-number-test.false in
    let end : c.loop-number.number ≡ c.args.to = omega (arith, u, b) in
    subst (λ (n : ℕ). c.loop-number.found.items ++ faults_from p (reverse (take n c.args.words.now)) (drop n c.args.words.now) ≡ faults_from p (reverse (take c.args.from c.args.words.now)) (drop c.args.from c.args.words.now)) end (c.loop-number.invariant.found p k o)
