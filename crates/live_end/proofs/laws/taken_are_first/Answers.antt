use Rattle.live_end.specs.Sending.{progress_of}
use Rattle.live_end.proofs.laws.taken_are_first.Goals as goal

pub returns : goal.returns
returns c = λ t x rest i file k. c.taken_are_first.ensures t.lanes (progress_of x) rest i file k.stands
