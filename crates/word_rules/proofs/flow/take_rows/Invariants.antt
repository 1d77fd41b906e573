use Rattle.std.proofs.Common.{ℕ, List, ◌++◌, take}
use Rattle.stream_model.specs.declared.rows.FlowRow.{FlowRow}
use Rattle.calendar.specs.Incoming.{Stands}
use Rattle.word_rules.specs.Flows.{NoneLater}
use Rattle.word_rules.proofs.flow.take_rows.Given as goal

-- the rows below the next are taken
abbrev pub invariant-loop-n : goal.invariant-loop-n
invariant-loop-n l = record {
  stands : (entries : List ℕ) (heard : List FlowRow) → Stands l.fn.calendar entries (heard ++ take l.taken l.rows) → Stands l.calendar entries (heard ++ take l.n l.rows);
  early : NoneLater (take l.taken l.rows) l.slot → NoneLater (take l.n l.rows) l.slot;
}
