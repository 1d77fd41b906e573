-- What was read, as it is in the code.
use Rattle.std.specs.Prelude.{map}
use Rattle.link_plan.specs.ScheduleViews.{schedule_value}
use Rattle.link_plan.specs.Views.{plan_value}
use Rattle.run_stops.specs.Reading.{vec_items}
use Rattle.damage_commands.specs.declared.inputs.DamageInputs as code
use Rattle.damage_commands.specs.PlanLanes.{DamageInputs}

abbrev pub inputs_value : code.DamageInputs → DamageInputs
inputs_value read = record { plan = plan_value read.plan; schedule = schedule_value read.schedule; lanes = map vec_items read.lanes.items }
