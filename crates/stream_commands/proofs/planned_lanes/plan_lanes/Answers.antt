use Rattle.std.proofs.Common.{IfOk, Result, Ok, Err}
use Rattle.lk_base.specs.declared.memory.OutOfMemory.{OutOfMemory}
use Rattle.stream_model.specs.BurstStream.{Source}
use Rattle.plan_inputs.specs.Inputs.{Reading}
use Rattle.plan_inputs.specs.Sources.{IsSourceOf}
use Rattle.plan_inputs.specs.Values.{reading_value}
use Rattle.stream_commands.specs.PlanLanes.{AreLanesOf, AreLanesOfPlan}
use Rattle.stream_commands.specs.declared.planned_lanes.PlanLanes.{PlanLanes}
use Rattle.stream_commands.proofs.planned_lanes.plan_lanes.Goals as goal

pub lanes_of_source-requires-clause-suits : goal.lanes_of_source-requires-clause-suits
lanes_of_source-requires-clause-suits c =
    let shape = c.source_from-source.ensures.is.shape in
    record { burst_max = shape.burst_max; burst_short = shape.burst_short; group = shape.group; warmup = shape.warmup }

of_plan : (i : Reading) (source : Source) → IsSourceOf i.plan i.inputs source → (r : Result PlanLanes OutOfMemory) → IfOk r (AreLanesOf i.plan.settings source) → IfOk r (AreLanesOfPlan i)
of_plan i source is (Ok p) h = record { source = source; is_source = is; is = h }
of_plan i source is (Err e) h = tt

pub returns : goal.returns
returns c = of_plan (reading_value c.args.reading.now) c.source_from-source.result c.source_from-source.ensures.is c.lanes_of_source.result c.lanes_of_source.ensures
