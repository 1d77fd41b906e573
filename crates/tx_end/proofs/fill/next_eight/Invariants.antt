use Rattle.std.proofs.Common.{◌≡◌, ◌+◌, ◌*◌, ◌++◌, length, take}
use Rattle.lane_model.specs.Striping.{lane_payload}
use Rattle.tx_end.proofs.fill.next_eight.Given as goal

-- the first words are there, and the next one stands at this place of the group
abbrev pub invariant-loop-k : goal.invariant-loop-k
invariant-loop-k l = record {
  words : take (l.place + l.k) (lane_payload l.lanes l.group l.number) ≡ take l.place (lane_payload l.lanes l.group l.number) ++ take l.k l.eight;
  long : length l.eight ≡ 8;
  next : l.at ≡ (l.place + l.k) * l.lanes + l.number;
}
