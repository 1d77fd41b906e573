use Rattle.std.proofs.Common.{◌≡◌, ◌≤◌, ◌-◌, length}
use Rattle.live_checker.specs.Standing.{Checked, Checks}
use Rattle.c_checker.specs.Many.{LeadsTo, asked}
use Rattle.c_checker.proofs.many.take_words.Given as goal

-- the words so far are taken
abbrev pub invariant-loop-at : goal.invariant-loop-at
invariant-loop-at l = record {
  upto : l.at ≤ length l.words;
  same : l.at ≡ 0 → l.checker ≡ l.fn.checker;
  takes : (x : Checked) → Checks l.fn.checker x → (y : Checked) × Checks l.checker y × LeadsTo (asked l.words) 0 x l.at y;
}

abbrev pub decreases-loop-at : goal.decreases-loop-at
decreases-loop-at l = length l.words - l.at
