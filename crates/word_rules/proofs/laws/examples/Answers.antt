-- Proved above.
use Rattle.word_rules.proofs.ExamplesHold.{examples_hold}
use Rattle.word_rules.proofs.laws.examples.Goals as goal

pub returns : goal.returns
returns c = examples_hold
