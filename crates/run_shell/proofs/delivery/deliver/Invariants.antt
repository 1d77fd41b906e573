use Rattle.std.proofs.Common.{◌≡◌, map, string_bytes}
use Rattle.run_shell.specs.Outputs.{IsOpen, open_names}
use Rattle.run_stops.specs.Reading.{vec_items}
use Rattle.run_shell.proofs.Delivering.{filled}
use Rattle.run_shell.proofs.delivery.deliver.Given as goal

-- the outputs so far were given their contents
abbrev pub invariant-loop-place : goal.invariant-loop-place
invariant-loop-place g l = record {
  same_faults : g.S.Store.faults l.store ≡ g.S.Store.faults l.fn.store;
  names : open_names l.outputs ≡ map string_bytes l.fn.names.items;
  open_so_far : IsOpen l.outputs (filled l.place (map string_bytes l.fn.names.items) (map vec_items l.contents)) (g.S.Store.files l.fn.store) (g.S.Store.files l.store);
}
