use Rattle.lane_words.proofs.Growths.{words_first}
use Rattle.lane_words.proofs.Reading.{written_is_read}
use Rattle.lane_words.proofs.laws.words_grow.Goals as goal

pub returns : goal.returns
returns c = record {
  grow = λ items more. let (words, is) = words_first items more in record { words = words; extended = is };
  read = written_is_read;
}
