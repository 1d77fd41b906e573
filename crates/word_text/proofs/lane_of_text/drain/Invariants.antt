-- Each byte takes waiting bits away.
use Rattle.std.proofs.Common.{length}
use Rattle.word_text.specs.Bytes.{TakesBytes}
use Rattle.word_text.proofs.lane_of_text.drain.Given as goal

abbrev pub invariant-loop-byte : goal.invariant-loop-byte
invariant-loop-byte l = TakesBytes l.fn.writer l.writer l.fn.bytes.items l.bytes.items

abbrev pub decreases-loop-byte : goal.decreases-loop-byte
decreases-loop-byte l = length l.writer
