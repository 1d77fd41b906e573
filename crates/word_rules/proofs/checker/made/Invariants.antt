use Rattle.std.proofs.Common.{◌≡◌, length, take}
use Rattle.word_rules.specs.Made.{AreUnused}
use Rattle.word_rules.proofs.checker.made.Given as goal

-- the channels so far are listed
abbrev pub invariant-loop-i : goal.invariant-loop-i
invariant-loop-i l = record {
  all : length l.kept.items ≡ 65536;
  unused : AreUnused l.kept.items (take l.i l.channels);
}
