use Rattle.std.proofs.Common.{◌+◌, ◌-◌, ◌≤◌, ◌++◌, length}
use Rattle.word_text.specs.Lines.{ended}
use Rattle.word_text.specs.Listings.{words_head}
use Rattle.word_text.proofs.Growing.{BytesBehind}
use Rattle.word_text.proofs.words_of_text.put_words.Given as goal

-- the bytes of the lines before are there
abbrev pub invariant-loop-rest : goal.invariant-loop-rest
invariant-loop-rest l = record {
  so_far : BytesBehind (ended words_head ++ l.lines) l.fn.out.items l.out.items l.rest (l.number - 1);
  first : 2 ≤ l.number;
  few : l.number + length l.rest ≤ length l.lines + 2;
}

abbrev pub decreases-loop-rest : goal.decreases-loop-rest
decreases-loop-rest l = length l.rest
