use Rattle.stream_commands.proofs.NoBurstWhenOff.{stream_never, plan_never, burst_never, send_never}
use Rattle.stream_commands.proofs.laws.never_bursts_when_off.Goals as goal

pub returns-clause-stream : goal.returns-clause-stream
returns-clause-stream c = stream_never

pub returns-clause-plan : goal.returns-clause-plan
returns-clause-plan c = plan_never

pub returns-clause-burst : goal.returns-clause-burst
returns-clause-burst c = burst_never

pub returns-clause-send : goal.returns-clause-send
returns-clause-send c = send_never
