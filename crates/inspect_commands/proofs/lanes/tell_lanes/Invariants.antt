use Rattle.std.proofs.Common.{◌≡◌, ℕ, List, Option, length}
use Rattle.lk_outside.specs.Files.{Files}
use Rattle.run_shell.specs.Outputs.{open_names}
use Rattle.inspect_commands.specs.Telling.{AreShort, AreTold}
use Rattle.inspect_commands.proofs.lanes.tell_lanes.Given as goal

-- the first lanes are told
abbrev pub invariant-loop-lane : goal.invariant-loop-lane
invariant-loop-lane g l = record {
  same_faults : g.S.Store.faults l.store ≡ g.S.Store.faults l.fn.store;
  names : open_names l.outputs ≡ open_names l.fn.outputs;
  lanes : g.P.LanePieces.lane_count l.lanes ≡ g.P.LanePieces.lane_count l.fn.lanes;
  files : g.P.LanePieces.file_names l.lanes ≡ g.P.LanePieces.file_names l.fn.lanes;
  limits : g.P.LanePieces.fits l.lanes;
  told : (all : List (List ℕ)) (was : Option Files) → length all ≡ l.fn.link.lanes → AreTold l.fn.link 0 all (g.P.LanePieces.are_lanes l.fn.lanes was all × AreShort all) l.fn.told l.fn.outputs was (g.S.Store.files l.fn.store)
      → AreTold l.fn.link l.lane all (g.P.LanePieces.are_lanes l.lanes was all × AreShort all) l.told l.outputs was (g.S.Store.files l.store);
}
