use Rattle.std.proofs.Common.{◌≡◌, ℕ, List, Option}
use Rattle.lk_outside.specs.Files.{Files}
use Rattle.run_shell.specs.Outputs.{IsOpen, open_names}
use Rattle.run_shell.proofs.outputs.append_pieces_of.Given as goal

-- the files were given what they were given before
abbrev pub invariant-loop-place : goal.invariant-loop-place
invariant-loop-place g l = record {
  same_faults : g.S.Store.faults l.store ≡ g.S.Store.faults l.fn.store;
  names : open_names l.files.items ≡ open_names l.fn.files.items;
  open_so_far : (given : List (List ℕ)) (was : Option Files) → IsOpen l.fn.files.items given was (g.S.Store.files l.fn.store) → IsOpen l.files.items given was (g.S.Store.files l.store);
}
