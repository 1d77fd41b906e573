-- Proved above.
use Rattle.reassembly.proofs.Judged.{stretches_are_judged}
use Rattle.reassembly.proofs.laws.stretches_are_judged.Goals as goal

pub returns : goal.returns
returns c = stretches_are_judged
