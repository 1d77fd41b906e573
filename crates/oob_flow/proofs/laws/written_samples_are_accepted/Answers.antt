use Rattle.oob_flow.proofs.WrittenSamples.{none_bad_written}
use Rattle.oob_flow.proofs.laws.written_samples_are_accepted.Goals as goal

pub returns : goal.returns
returns c = none_bad_written
