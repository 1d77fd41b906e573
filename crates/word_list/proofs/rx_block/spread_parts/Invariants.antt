-- The words that are left, from the next place on, lead to the block with all of them.
use Rattle.std.proofs.Common.{◌≡◌, ◌+◌, ◌*◌, drop, length}
use Rattle.word_list.specs.Received.{rx_words_of, spread}
use Rattle.word_list.proofs.rx_block.spread_parts.Given as goal

abbrev pub invariant-loop-word : goal.invariant-loop-word
invariant-loop-word l = record {
  numbers : length l.numbers ≡ length l.fn.numbers;
  kinds : length l.kinds ≡ length l.fn.kinds;
  left : l.at + length (drop l.word-index l.words) * l.step ≡ l.from + length l.words * l.step;
  words : spread l.step l.at (drop l.word-index l.words) (rx_words_of l.numbers l.kinds) ≡ spread l.step l.from l.words (rx_words_of l.fn.numbers l.fn.kinds);
}
