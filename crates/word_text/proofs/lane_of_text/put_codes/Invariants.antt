use Rattle.std.proofs.Common.{◌≡◌, ◌+◌, ◌<◌, ◌≤◌, ◌++◌, length}
use Rattle.word_text.specs.Lines.{ended}
use Rattle.word_text.specs.Listings.{lane_head}
use Rattle.word_text.proofs.Lanes.{CodesRead}
use Rattle.word_text.proofs.lane_of_text.put_codes.Given as goal

-- the bits of the lines before are put
abbrev pub invariant-loop-line : goal.invariant-loop-line
invariant-loop-line l = record {
  read : CodesRead (ended lane_head ++ l.lines) l.left l.number l.writer l.fn.out.items l.out.items;
  waits : l.waiting ≡ length l.writer;
  short : l.waiting < 8;
  few : l.number + length l.left ≤ length l.lines + 2;
}

abbrev pub decreases-loop-line : goal.decreases-loop-line
decreases-loop-line l = length l.left
