use Rattle.std.proofs.Common.{◌≡◌, ◌≤◌, ◌-◌, [], length, take}
use Rattle.lk_base.specs.Positions.{words_from}
use Rattle.reassembly.specs.States.{NothingWaits}
use Rattle.receipts.specs.Receipts.{Beginning}
use Rattle.join_commands.specs.Going.{IsReady}
use Rattle.join_commands.proofs.words.take_all.Given as goal

-- the first words have come
abbrev pub invariant-loop-index : goal.invariant-loop-index
invariant-loop-index g l = record {
  within : l.index ≤ length l.words;
  same_faults : g.S.Store.faults l.store ≡ g.S.Store.faults l.fn.store;
  waits : NothingWaits l.reassembly;
  ready : (b : Beginning) → IsReady b 0 [] l.fn.reassembly l.fn.receipt (g.S.Store.files l.fn.store) →
      IsReady b l.index (words_from 0 0 (take l.index l.words)) l.reassembly l.receipt (g.S.Store.files l.store);
}

abbrev pub decreases-loop-index : goal.decreases-loop-index
decreases-loop-index g l = length l.words - l.index
