use Rattle.std.proofs.Common.{ap, ◌++◌, ◌∙◌, List}
use Rattle.std.proofs.lemmas.Result.{IfOk-weaker}
use Rattle.report_model.specs.declared.counts.SentCount.{SentCount}
use Rattle.stream_commands.specs.Text.{counted_lines, held_text}
use Rattle.stream_commands.proofs.Counted.{end_by}
use Rattle.stream_commands.proofs.words_maker.end_of.Goals as goal

pub held-held-requires : goal.held-held-requires
held-held-requires c = let (made, k, stream) = c.requires in (c.args.source.now, made, k)

pub slots-slots-requires : goal.slots-slots-requires
slots-slots-requires c = let (made, k, stream) = c.requires in (c.args.source.now, made, k)

pub counts-requires : goal.counts-requires
counts-requires c = let (made, k, stream) = c.requires in (made, k)

pub returns : goal.returns
returns c =
    let source = c.args.source.now in
    IfOk-weaker c.reported.result _ _
    (λ f is made k stream.
    end_by source made c.in_ok-counts.counts.items c.slots-slots.result c.held-held.result f stream
    (λ channel. c.held-held.ensures.held source made channel k stream)
    (c.held-held.ensures.free source made k stream)
    (c.in_ok-counts.ensures made k stream)
    (c.slots-slots.ensures source made k)
    is.0
    (is.1 ∙ ap (λ (cs : List SentCount). counted_lines cs c.slots-slots.result ++ held_text c.held-held.result) c.deref.ensures.value))
    c.reported.ensures
