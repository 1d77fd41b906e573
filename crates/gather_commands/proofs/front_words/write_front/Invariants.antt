use Rattle.std.proofs.Common.{◌≡◌, ◌≤◌, ◌*◌, ◌-◌, length, take}
use Rattle.lane_words.specs.WordsFile.{rx_words_file}
use Rattle.rx_front.specs.Waiting.{words_in}
use Rattle.gather_commands.proofs.front_words.write_front.Given as goal

-- the bytes of the first words are written
abbrev pub invariant-loop-at : goal.invariant-loop-at
invariant-loop-at l = record {
  within : l.at ≤ l.count;
  long : length l.bytes ≡ length l.fn.bytes;
  file : take (9 * l.at) l.bytes ≡ rx_words_file (take l.at (words_in l.front.waiting));
}

abbrev pub decreases-loop-at : goal.decreases-loop-at
decreases-loop-at l = l.count - l.at
