use Rattle.std.proofs.Common.{◌≡◌, ◌+◌, true}
use Rattle.word_calls.proofs.ticks.take_code.Given as goal

abbrev pub invariant-loop-i : goal.invariant-loop-i
invariant-loop-i l = record {
  taken : l.lane.lock.taken ≡ l.fn.lane.lock.taken + l.i;
  settled : l.lane.deskew.settled ≡ true;
  settings : l.lane.deskew.settings ≡ l.fn.lane.deskew.settings;
}
