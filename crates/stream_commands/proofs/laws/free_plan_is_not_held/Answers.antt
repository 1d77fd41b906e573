use Rattle.stream_commands.proofs.NoBurstWhenOff.{free_plan}
use Rattle.stream_commands.proofs.laws.free_plan_is_not_held.Goals as goal

pub returns : goal.returns
returns c = free_plan
