use Rattle.live_end.specs.Sending.{progress_of}
use Rattle.live_end.proofs.laws.all_taken_are_the_file.Goals as goal

pub returns : goal.returns
returns c = λ t x i k ended h none. (k.whole ended, (c.all_taken_are_the_file.ensures t.lanes (progress_of x) i k.stands ended h none).1)
