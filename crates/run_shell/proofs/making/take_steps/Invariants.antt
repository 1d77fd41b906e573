use Rattle.std.proofs.Common.{◌≡◌, ℕ, List, Option}
use Rattle.lk_outside.specs.Files.{Files}
use Rattle.run_shell.specs.Outputs.{IsOpen, open_names}
use Rattle.run_shell.proofs.making.take_steps.Given as goal

-- the outputs were given what the maker gave
abbrev pub invariant-working : goal.invariant-working
invariant-working g l = record {
  same_faults : g.S.Store.faults l.store ≡ g.S.Store.faults l.fn.store;
  opens : open_names l.outputs ≡ open_names l.fn.outputs;
  inputs : g.M.Maker.inputs l.maker ≡ g.M.Maker.inputs l.fn.maker;
  going : (given : List (List ℕ)) (was : Option Files) → g.M.Maker.gave l.fn.maker given → IsOpen l.fn.outputs given was (g.S.Store.files l.fn.store) → (now : List (List ℕ)) × g.M.Maker.gave l.maker now × IsOpen l.outputs now was (g.S.Store.files l.store);
}

abbrev pub decreases-working : goal.decreases-working
decreases-working g l = g.M.Maker.left l.maker
