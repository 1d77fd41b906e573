use Rattle.std.proofs.lemmas.List.Filters.{FiltersInPlace}
use Rattle.burst_scheduler.specs.Asked.{Asked}
use Rattle.duplex.specs.Queues.{Tells}
use Rattle.duplex.proofs.Filled.{HasDrained, keeps_one}
use Rattle.duplex.proofs.queue.drain.Given as goal

abbrev pub invariant-loop-i : goal.invariant-loop-i
invariant-loop-i l = record {
  line : FiltersInPlace (keeps_one l.fn.queues.items) l.fn.filled.items l.filled.items l.kept l.i;
  drained : HasDrained l.fn.queues.items l.queues.items l.fn.filled.items l.i;
  tells : (a : Asked) → Tells l.fn.scheduler a l.mark l.fn.queues.items → Tells l.scheduler a l.mark l.queues.items;
}
