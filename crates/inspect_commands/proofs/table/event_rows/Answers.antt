use Rattle.std.proofs.Common.{◌+◌, ◌++◌, ◌∙◌, ℕ, List, Some, ap, sym, take}
use Rattle.std.proofs.lemmas.List.{take_more}
use Rattle.inspect_commands.proofs.Tables.{row_more, rows_none}
use Rattle.inspect_commands.proofs.table.event_rows.Goals as goal

pub loop-event-preserved : goal.loop-event-preserved
loop-event-preserved c =
    let before = take c.loop-event.event-index c.args.events.now in
    let wrote = c.in_ok-write_event.ensures {u = tt} in
    let old = c.loop-event.writer.wtr in
    let new = c.write_event.new.writer.wtr in
    let more = take_more c.args.events.now c.loop-event.event-index _ c.loop-event-test.true in
    record {
      between = wrote.between;
      text = row_more c.args.lane before _ (take (c.loop-event.event-index + 1) c.args.events.now) (old.inner.items ++ old.buf) (new.inner.items ++ new.buf) more c.loop-event.invariant.text wrote.text;
    }

pub loop-event-init : goal.loop-event-init
loop-event-init c = record { between = c.row_writer-writer.ensures.between; text = c.row_writer-writer.ensures.text ∙ ap (λ (bs : List ℕ). Some bs) (sym (rows_none c.args.lane)) }
