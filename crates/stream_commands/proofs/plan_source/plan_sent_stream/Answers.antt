use Rattle.std.proofs.Common.{IfOk, Result, Ok, Err}
use Rattle.lk_base.specs.declared.memory.OutOfMemory.{OutOfMemory}
use Rattle.stream_model.specs.BurstStream.{Source}
use Rattle.plan_inputs.specs.Inputs.{Reading}
use Rattle.plan_inputs.specs.Sources.{IsSourceOf}
use Rattle.plan_inputs.specs.Values.{reading_value}
use Rattle.stream_commands.specs.Payload.{IsSentStreamOf, IsSentStreamOfPlan}
use Rattle.stream_commands.specs.declared.sent_stream.SentStream.{SentStream}
use Rattle.stream_commands.proofs.plan_source.plan_sent_stream.Goals as goal

of_plan : (i : Reading) (source : Source) → IsSourceOf i.plan i.inputs source → (r : Result SentStream OutOfMemory) → IfOk r (IsSentStreamOf source) → IfOk r (IsSentStreamOfPlan i)
of_plan i source is (Ok s) h = record { source = source; is_source = is; is = h }
of_plan i source is (Err e) h = tt

pub returns : goal.returns
returns c = of_plan (reading_value c.args.reading.now) c.source_from-source.result c.source_from-source.ensures.is c.sent_stream_of.result c.sent_stream_of.ensures
