use Rattle.std.proofs.Common.{◌≡◌, map, string_bytes}
use Rattle.lk_outside.specs.Files.{Told}
use Rattle.run_shell.specs.Outcome.{Holds}
use Rattle.run_shell.specs.Outputs.{outs}
use Rattle.run_stops.specs.Reading.{vec_items}
use Rattle.run_shell.proofs.Delivering.{filled}
use Rattle.run_shell.proofs.delivery.deliver_in_turn.Given as goal

-- the outputs so far are filled, and the others are empty
abbrev pub invariant-loop-turn : goal.invariant-loop-turn
invariant-loop-turn g l = record {
  same_faults : g.S.Store.faults l.store ≡ g.S.Store.faults l.fn.store;
  stand : Told (g.S.Store.files l.fn.store) (g.S.Store.files l.store) (Holds (outs (map string_bytes l.fn.names.items) (filled l.turn (map string_bytes l.fn.names.items) (map vec_items l.contents))));
}
