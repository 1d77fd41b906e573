use Rattle.std.proofs.Common.{◌≡◌, ◌++◌, reverse, take, drop}
use Rattle.word_rules.specs.Faults.{Plan, faults, faults_from, plan_by}
use Rattle.word_rules.specs.Checks.{Keeps}
use Rattle.word_rules.proofs.checker.check.Given as goal

-- the rows so far, with those of the words that are left, are those of all words
abbrev pub invariant-loop-i : goal.invariant-loop-i
invariant-loop-i l =
    let p : Plan = plan_by l.plan in
    record {
      keeps : Keeps l.checker p (reverse (take l.i l.words));
      rows : l.found.items ++ faults_from p (reverse (take l.i l.words)) (drop l.i l.words) ≡ faults p l.words;
    }
