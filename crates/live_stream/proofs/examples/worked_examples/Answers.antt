use Rattle.live_stream.proofs.ExamplesHold.{live_examples_hold}
use Rattle.live_stream.proofs.examples.worked_examples.Goals as goal

pub returns : goal.returns
returns c = live_examples_hold
