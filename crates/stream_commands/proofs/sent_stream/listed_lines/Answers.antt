use Rattle.std.proofs.Common.{ap, ◌∙◌, List}
use Rattle.std.proofs.lemmas.Result.{IfOk-weaker}
use Rattle.report_model.specs.declared.counts.SentCount.{SentCount}
use Rattle.stream_commands.specs.Text.{counted_lines}
use Rattle.stream_commands.proofs.Counted.{lines_by}
use Rattle.stream_commands.proofs.sent_stream.listed_lines.Goals as goal

pub returns : goal.returns
returns c =
    IfOk-weaker c.stream_lines.result _ _
    (λ lines is words stream sent slots.
    lines_by c.args.source.now words c.in_ok-counts.counts.items c.args.slots lines.items
    (c.in_ok-counts.ensures words stream sent)
    slots
    (is ∙ ap (λ (cs : List SentCount). counted_lines cs c.args.slots) c.deref.ensures.value))
    c.stream_lines.ensures
