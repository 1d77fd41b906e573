-- Each is computed.
use Rattle.live_checker.proofs.ExamplesHold.{examples_hold}
use Rattle.live_checker.proofs.examples.live_examples.Goals as goal

pub returns : goal.returns
returns c = examples_hold
