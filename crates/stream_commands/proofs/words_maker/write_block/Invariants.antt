use Rattle.std.proofs.Common.{◌-◌, ◌≤◌, List, length, take}
use Rattle.lk_base.specs.declared.word.Word.{Word}
use Rattle.stream_model.specs.BurstStream.{Source}
use Rattle.tx_words.specs.Streaming.{Streams}
use Rattle.stream_commands.specs.Making.{MakesFile}
use Rattle.stream_commands.proofs.words_maker.write_block.Given as goal

-- the bytes so far are those of the words so far
abbrev pub invariant-loop-bytes : goal.invariant-loop-bytes
invariant-loop-bytes l = record {
  within : l.at ≤ length l.initial.bytes;
  file : (source : Source) (made : List Word) → Streams l.initial.words source made → MakesFile l.words source made (take l.at l.bytes);
}

abbrev pub decreases-loop-bytes : goal.decreases-loop-bytes
decreases-loop-bytes l = length l.bytes - l.at
