use Rattle.std.proofs.Common.{◌≡◌, ◌*◌, true}
use Rattle.word_calls.proofs.ticks.take_nine.Given as goal

abbrev pub invariant-loop-word : goal.invariant-loop-word
invariant-loop-word l = record {
  taken : l.lane.lock.taken ≡ 67 * l.word;
  settled : l.lane.deskew.settled ≡ true;
  settings : l.lane.deskew.settings ≡ l.fn.lane.deskew.settings;
}
