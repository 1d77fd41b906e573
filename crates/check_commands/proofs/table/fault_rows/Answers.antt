use Rattle.std.proofs.Common.{◌+◌, ◌++◌, ◌∙◌, ℕ, List, Some, ap, sym, take}
use Rattle.std.proofs.lemmas.List.{take_more}
use Rattle.check_commands.proofs.Tables.{row_more, rows_none}
use Rattle.check_commands.proofs.table.fault_rows.Goals as goal

pub loop-fault-preserved : goal.loop-fault-preserved
loop-fault-preserved c =
    let before = take c.loop-fault.fault-index c.args.faults.now in
    let wrote = c.in_ok-write_fault.ensures {u = tt} in
    let old = c.loop-fault.writer.wtr in
    let new = c.write_fault.new.writer.wtr in
    let more = take_more c.args.faults.now c.loop-fault.fault-index _ c.loop-fault-test.true in
    record {
      between = wrote.between;
      text = row_more before _ (take (c.loop-fault.fault-index + 1) c.args.faults.now) (old.inner.items ++ old.buf) (new.inner.items ++ new.buf) more c.loop-fault.invariant.text wrote.text;
    }

pub loop-fault-init : goal.loop-fault-init
loop-fault-init c = record { between = c.row_writer-writer.ensures.between; text = c.row_writer-writer.ensures.text ∙ ap (λ (bs : List ℕ). Some bs) (sym rows_none) }
