use Rattle.plan_inputs.proofs.PlanStream.{some_plan_stream, planned_stream}
use Rattle.plan_inputs.proofs.laws.some_plan_stream.Goals as goal

pub returns-clause-of_source : goal.returns-clause-of_source
returns-clause-of_source c = some_plan_stream

pub returns-clause-of_reading : goal.returns-clause-of_reading
returns-clause-of_reading c = planned_stream
