-- The lanes of a stream, with what is reported of it.
use Rattle.std.specs.Prelude.{◌≡◌}
use Rattle.lk_base.specs.Link.{Settings}
use Rattle.stream_model.specs.BurstStream.{Source}
use Rattle.tx_end.specs.SentLanes.{AreSentLanes}
use Rattle.plan_inputs.specs.Inputs.{Reading}
use Rattle.plan_inputs.specs.Sources.{IsSourceOf}
use Rattle.stream_commands.specs.Stream.{stream_text}
use Rattle.stream_commands.specs.declared.planned_lanes.PlanLanes.{PlanLanes}

-- the lanes that carry the stream of this source, and its lines
pub record AreLanesOf (s : Settings) (source : Source) (p : PlanLanes) : Type 0 where
  pub is : AreSentLanes s source p.lanes
  pub lines : p.lines.items ≡ stream_text source is.words

-- of the stream of a plan and its inputs
pub record AreLanesOfPlan (i : Reading) (p : PlanLanes) : Type 0 where
  pub source : Source
  pub is_source : IsSourceOf i.plan i.inputs source
  pub is : AreLanesOf i.plan.settings source p
