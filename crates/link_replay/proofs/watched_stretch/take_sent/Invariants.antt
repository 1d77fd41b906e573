-- The words so far are taken: those that are left lead to the end.
use Rattle.std.proofs.Common.{◌≡◌, drop, map, take}
use Rattle.lk_base.specs.Words.{payload}
use Rattle.reassembly.specs.Folds.{with_all_data}
use Rattle.link_replay.proofs.watched_stretch.take_sent.Given as goal

abbrev pub invariant-loop-slot : goal.invariant-loop-slot
invariant-loop-slot l = with_all_data (map payload (drop l.slot (take l.next l.sent))) l.checked ≡ with_all_data (map payload (drop l.first (take l.next l.sent))) l.fn.checked
