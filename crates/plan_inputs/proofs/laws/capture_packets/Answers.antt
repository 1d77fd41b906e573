use Rattle.plan_inputs.proofs.PlanStream.{capture_packets}
use Rattle.plan_inputs.proofs.laws.capture_packets.Goals as goal

pub returns : goal.returns
returns c = capture_packets
