use Rattle.std.proofs.Common.{◌≡◌, ◌+◌, ◌≤◌, length}
use Rattle.word_text.proofs.Growing.{WordsBehind, ReadSoFar}
use Rattle.word_text.proofs.text_of_words.put_words_text.Given as goal

-- the lines of the words before are there, and those words are read
abbrev pub invariant-loop-rest : goal.invariant-loop-rest
invariant-loop-rest l = record {
  listed : WordsBehind l.fn.out.items l.out.items l.bytes l.rest l.count;
  read : ReadSoFar l.bytes l.rest l.offset;
  stands : l.offset + length l.rest ≡ length l.bytes;
  few : l.count + length l.rest ≤ length l.bytes + 1;
}

abbrev pub decreases-loop-rest : goal.decreases-loop-rest
decreases-loop-rest l = length l.rest
