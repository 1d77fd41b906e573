use Rattle.std.proofs.Common.{◌≡◌, ◌++◌, ◌-◌, ◌≤◌, List, length, take, drop}
use Rattle.lk_base.specs.declared.word.Word.{Word}
use Rattle.stream_model.specs.BurstStream.{Source}
use Rattle.tx_words.specs.Making.{GaveWords}
use Rattle.tx_words.proofs.word_maker.WordMaker.next_block.Given as goal

-- the first words are made, and the other places of the block are untouched
abbrev pub invariant-loop-count : goal.invariant-loop-count
invariant-loop-count l = record {
  within : l.count ≤ length l.initial.block;
  made : (source : Source) (words : List Word) → GaveWords l.initial.self source words → GaveWords l.self source (words ++ take l.count l.block);
  rest : drop l.count l.block ≡ drop l.count l.initial.block;
}

abbrev pub decreases-loop-count : goal.decreases-loop-count
decreases-loop-count l = length l.block - l.count
