-- What a scheduler gave is an open stream.
use Rattle.burst_scheduler.proofs.OpenWords.{words_are_open}
use Rattle.burst_scheduler.proofs.laws.words_are_open.Goals as goal

pub returns : goal.returns
returns c = words_are_open
