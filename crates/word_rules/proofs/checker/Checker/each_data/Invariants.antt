use Rattle.std.proofs.Common.{◌≡◌, ◌≤◌, ◌+◌, ◌*◌, ◌++◌, ℕ, List, take, map, vec_capacity, vec_len}
use Rattle.lk_base.specs.declared.word.RxWord.{RxWord}
use Rattle.lk_base.specs.declared.word.RxWord.TheVariants.{Data}
use Rattle.word_rules.specs.Checks.{Keeps}
use Rattle.word_rules.specs.Faults.{Plan, faults_from}
use Rattle.word_rules.specs.Runs.{run_after}
use Rattle.word_rules.proofs.checker.Checker.each_data.Given as goal

-- the first words of the run came, and there is room for the rows of the others
abbrev pub invariant-loop-i : goal.invariant-loop-i
invariant-loop-i l = record {
  keeps : (p : Plan) (earlier : List RxWord) → Keeps l.fn.self p earlier → Keeps l.self p (run_after earlier (take l.i l.run));
  rows : (p : Plan) (earlier : List RxWord) → Keeps l.fn.self p earlier → l.faults.items ≡ l.fn.faults.items ++ faults_from p earlier (map (λ (x : ℕ). Data x) (take l.i l.run));
  few : vec_len l.faults ≤ vec_len l.fn.faults + 2 * l.i;
  room : vec_capacity l.fn.faults ≤ vec_capacity l.faults;
}
