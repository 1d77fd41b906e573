use Rattle.std.proofs.Common.{◌≡◌, length, ◌-◌, ◌^◌}
use Rattle.tx_words.specs.Making.{GaveWords}
use Rattle.tx_words.proofs.stream.words_of.Given as goal

abbrev pub invariant-loop-block : goal.invariant-loop-block
invariant-loop-block l = GaveWords l.maker l.source l.words × (length l.block ≡ 512)

abbrev pub decreases-loop-block : goal.decreases-loop-block
decreases-loop-block l = 2 ^ 60 - length l.words
