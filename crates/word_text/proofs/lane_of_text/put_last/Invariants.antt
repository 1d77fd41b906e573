use Rattle.std.proofs.Common.{◌≡◌, ◌+◌, ◌*◌, length}
use Rattle.word_text.specs.Bytes.{TakesBytes}
use Rattle.word_text.proofs.lane_of_text.put_last.Given as goal

abbrev pub invariant-loop-byte : goal.invariant-loop-byte
invariant-loop-byte l = record {
  taken : TakesBytes l.initial.writer l.writer l.fn.bytes.items l.bytes.items;
  left : length l.writer + 8 * l._byte ≡ l.waiting + 67;
}
