use Rattle.plan_inputs.proofs.SomeSource.{some_source}
use Rattle.plan_inputs.proofs.laws.some_source.Goals as goal

pub returns : goal.returns
returns c = some_source
