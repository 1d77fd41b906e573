use Rattle.live_stream.proofs.LiveWords.{words_are_live}
use Rattle.live_stream.proofs.laws.words_are_live.Goals as goal

pub returns : goal.returns
returns c = words_are_live
