-- The worked examples are as they are said.
use Rattle.std.proofs.Common.{refl}
use Rattle.lane_words.specs.GatheredLaws.{WorkedWords}

pub worked_words : WorkedWords
worked_words = record { none = refl; two = refl; bytes = refl }
