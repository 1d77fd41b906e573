use Rattle.plan_inputs.specs.Values.{reading_value}
use Rattle.resend_commands.proofs.PlanResent.{stream_begun, sealed_plan}
use Rattle.resend_commands.proofs.resend_maker.begin.Goals as goal

pub new-requires-clause-sealed : goal.new-requires-clause-sealed
new-requires-clause-sealed c = sealed_plan c.args.reading.now c.in_ok-stream.stream c.requires.narrow c.in_ok-stream.ensures

pub returns : goal.returns
returns c = stream_begun (reading_value c.args.reading.now) c.args.window c.in_ok-stream.stream c.in_ok-stream.ensures c.new.result c.new.ensures
