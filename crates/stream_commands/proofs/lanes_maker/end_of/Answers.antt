use Rattle.std.proofs.Common.{ap, ◌++◌, ◌∙◌, List}
use Rattle.std.proofs.lemmas.Result.{IfOk-weaker}
use Rattle.report_model.specs.declared.counts.SentCount.{SentCount}
use Rattle.tx_end.specs.Sending.{sending}
use Rattle.stream_commands.specs.Text.{counted_lines, held_text}
use Rattle.stream_commands.proofs.Counted.{end_by}
use Rattle.stream_commands.proofs.lanes_maker.end_of.Goals as goal

pub count_listed-requires : goal.count_listed-requires
count_listed-requires c =
    let (s, words, outs, k, stream) = c.requires in
    (words, c.sent.ensures (sending s c.args.source.now words outs) k)

pub sent-requires : goal.sent-requires
sent-requires c = let (s, words, outs, k, stream) = c.requires in (sending s c.args.source.now words outs, k)

pub slots-requires : goal.slots-requires
slots-requires c = let (s, words, outs, k, stream) = c.requires in (sending s c.args.source.now words outs, k)

pub held-requires : goal.held-requires
held-requires c = let (s, words, outs, k, stream) = c.requires in (sending s c.args.source.now words outs, k)

pub returns : goal.returns
returns c =
    let source = c.args.source.now in
    IfOk-weaker c.reported.result _ _
    (λ f is s words outs k stream.
    end_by source words c.in_ok-counts.counts.items c.slots.result c.held.result f stream
    (λ channel. c.held.ensures.held (sending s source words outs) channel k stream)
    (c.held.ensures.free (sending s source words outs) k stream)
    (c.in_ok-counts.ensures words stream (c.sent.ensures (sending s source words outs) k))
    (c.slots.ensures.count (sending s source words outs) k)
    is.0
    (is.1 ∙ ap (λ (cs : List SentCount). counted_lines cs c.slots.result ++ held_text c.held.result) c.deref.ensures.value))
    c.reported.ensures
