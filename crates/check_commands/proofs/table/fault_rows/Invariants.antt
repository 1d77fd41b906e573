use Rattle.std.proofs.Common.{◌≡◌, Some, take}
use Rattle.csv.specs.Writing.{text_written}
use Rattle.link_reports.specs.TableWriter.{IsBetweenRows}
use Rattle.check_commands.specs.Table.{fault_rows}
use Rattle.check_commands.proofs.table.fault_rows.Given as goal

-- the rows of the faults before are written
abbrev pub invariant-loop-fault : goal.invariant-loop-fault
invariant-loop-fault l = record {
  between : IsBetweenRows l.writer;
  text : text_written (λ v. Some v.items) l.writer ≡ Some (fault_rows (take l.fault-index l.faults));
}
