use Rattle.plan_inputs.proofs.PlanChannels.{narrow_source}
use Rattle.plan_inputs.proofs.laws.narrow_sources.Goals as goal

pub returns : goal.returns
returns c = narrow_source
