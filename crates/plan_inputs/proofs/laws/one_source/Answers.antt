use Rattle.plan_inputs.proofs.SameSource.{same_source}
use Rattle.plan_inputs.proofs.laws.one_source.Goals as goal

pub returns : goal.returns
returns c = same_source
