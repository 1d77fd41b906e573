use Rattle.std.proofs.Common.{◌≡◌, ◌≤◌, ◌-◌, ◌++◌, reverse, take, drop}
use Rattle.word_rules.specs.Checks.{Keeps}
use Rattle.word_rules.specs.Faults.{Plan, faults_from}
use Rattle.word_rules.specs.Flows.{InOrder}
use Rattle.check_commands.proofs.pass.block_faults.Given as goal

-- the faults so far, with those of the words that are left, are those from the first word of the block on
abbrev pub invariant-loop-number : goal.invariant-loop-number
invariant-loop-number l = record {
  upto : l.number ≤ l.to;
  keeps : (p : Plan) → Keeps l.fn.checker p (reverse (take l.from l.words)) → Keeps l.checker p (reverse (take l.number l.words));
  found : (p : Plan) → Keeps l.fn.checker p (reverse (take l.from l.words)) → InOrder p.flow →
      l.found.items ++ faults_from p (reverse (take l.number l.words)) (drop l.number l.words) ≡ faults_from p (reverse (take l.from l.words)) (drop l.from l.words);
}

abbrev pub decreases-loop-number : goal.decreases-loop-number
decreases-loop-number l = l.to - l.number
