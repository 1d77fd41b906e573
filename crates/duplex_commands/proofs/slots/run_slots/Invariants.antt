use Rattle.std.proofs.Common.{◌≡◌, ◌≤◌, ◌-◌}
use Rattle.duplex_model.specs.DuplexRun.{Settings, Ends}
use Rattle.duplex.specs.Duplexes.{IsGiven}
use Rattle.duplex_commands.specs.Captures.{Beginning}
use Rattle.duplex_commands.specs.Slots.{IsAt}
use Rattle.duplex_commands.proofs.slots.run_slots.Given as goal

-- this many slots were done, and all that arrived has come
abbrev pub invariant-loop-slot : goal.invariant-loop-slot
invariant-loop-slot g l = record {
  within : l.slot ≤ l.slots;
  same_faults : g.S.Store.faults l.store ≡ g.S.Store.faults l.fn.store;
  given : IsGiven l.duplex;
  at : (b : Beginning) (settings : Settings) (ends : Ends) → IsAt b settings ends 0 l.fn.duplex l.fn.captures (g.S.Store.files l.fn.store) → IsAt b settings ends l.slot l.duplex l.captures (g.S.Store.files l.store);
}

abbrev pub decreases-loop-slot : goal.decreases-loop-slot
decreases-loop-slot g l = l.slots - l.slot
