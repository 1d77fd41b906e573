use Rattle.std.proofs.Common.{◌≡◌, ℕ}
use Rattle.duplex_model.specs.DuplexRun.{Settings, Ends}
use Rattle.duplex.specs.Duplexes.{waiting_of}
use Rattle.duplex_commands.specs.Captures.{Beginning}
use Rattle.duplex_commands.specs.Slots.{IsAt}
use Rattle.duplex_commands.proofs.slots.take_packets.Given as goal

-- what was given has come
abbrev pub invariant-loop-got : goal.invariant-loop-got
invariant-loop-got g l = record {
  same_faults : g.S.Store.faults l.store ≡ g.S.Store.faults l.fn.store;
  at : (b : Beginning) (settings : Settings) (ends : Ends) (slots : ℕ) → IsAt b settings ends slots l.fn.duplex l.fn.captures (g.S.Store.files l.fn.store) → IsAt b settings ends slots l.duplex l.captures (g.S.Store.files l.store);
}

abbrev pub decreases-loop-got : goal.decreases-loop-got
decreases-loop-got g l = waiting_of l.duplex
