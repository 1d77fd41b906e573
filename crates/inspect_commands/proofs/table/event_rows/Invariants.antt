use Rattle.std.proofs.Common.{◌≡◌, Some, take}
use Rattle.csv.specs.Writing.{text_written}
use Rattle.link_reports.specs.TableWriter.{IsBetweenRows}
use Rattle.inspect_commands.specs.Table.{event_rows}
use Rattle.inspect_commands.proofs.table.event_rows.Given as goal

-- the rows of the events before are written
abbrev pub invariant-loop-event : goal.invariant-loop-event
invariant-loop-event l = record {
  between : IsBetweenRows l.writer;
  text : text_written (λ v. Some v.items) l.writer ≡ Some (event_rows l.lane (take l.event-index l.events));
}
