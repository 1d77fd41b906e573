use Rattle.std.proofs.Common.{◌≡◌, ◌+◌, ◌*◌, ◌≤◌, ◌<◌, ◌^◌, ◌++◌, [], length}
use Rattle.lk_base.specs.Checksum.{bits_of, bits_of_bytes}
use Rattle.word_text.proofs.Lanes.{LinesBehind}
use Rattle.word_text.proofs.text_of_lane.put_lane_text.Given as goal

-- the lines of the codes before the piece are there
abbrev pub invariant-loop-piece : goal.invariant-loop-piece
invariant-loop-piece l = record {
  few : l.piece.count ≤ 67;
  below : l.piece.bits < 2 ^ l.piece.count;
  last : l.piece.count < 67 → l.reader ≡ [];
  first : 1 ≤ l.count;
  room : 67 * l.count + (l.piece.count + length l.reader) ≤ 8 * length l.bytes + 67;
  listed : LinesBehind l.fn.out.items l.out.items (bits_of_bytes l.bytes) (bits_of l.piece.count l.piece.bits ++ l.reader) l.count;
}

abbrev pub decreases-loop-piece : goal.decreases-loop-piece
decreases-loop-piece l = l.piece.count + length l.reader
