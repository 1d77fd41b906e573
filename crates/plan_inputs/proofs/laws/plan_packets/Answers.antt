use Rattle.plan_inputs.proofs.PlanStream.{inputs_packets}
use Rattle.plan_inputs.proofs.laws.plan_packets.Goals as goal

pub returns : goal.returns
returns c = inputs_packets
