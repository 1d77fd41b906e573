-- What contracts see of what was read.
use Rattle.link_plan.specs.Views.{plan_value}
use Rattle.check_commands.specs.declared.inputs.CheckInputs as code
use Rattle.check_commands.specs.Check.{CheckInputs}

abbrev pub inputs_value : code.CheckInputs → CheckInputs
inputs_value read = record { plan = plan_value read.plan; flow = read.flow.items; words = read.words }
