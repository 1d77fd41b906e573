use Rattle.std.proofs.Common.{◌≡◌, ◌+◌, ◌-◌, ℕ, List, [], Option, get_or}
use Rattle.lk_base.specs.Limits.{lane_limit}
use Rattle.lk_base.specs.Link.{Settings}
use Rattle.lk_outside.specs.Files.{Files}
use Rattle.run_shell.specs.Outputs.{open_names}
use Rattle.inspect_commands.specs.Telling.{AreShort, IsTelling, IsWithin}
use Rattle.inspect_commands.proofs.lane.InspectedLane.tell_all.Given as goal

-- the events of the bytes that were taken are told
abbrev pub invariant-pieces : goal.invariant-pieces
invariant-pieces g l = record {
  same_faults : g.S.Store.faults l.store ≡ g.S.Store.faults l.fn.store;
  names : open_names l.outputs ≡ open_names l.fn.outputs;
  lanes : g.P.LanePieces.lane_count l.lanes ≡ g.P.LanePieces.lane_count l.fn.lanes;
  files : g.P.LanePieces.file_names l.lanes ≡ g.P.LanePieces.file_names l.fn.lanes;
  limits : g.P.LanePieces.fits l.lanes;
  fits : IsWithin l.self;
  telling : (s : Settings) (all : List (List ℕ)) (given : List ℕ) (was : Option Files) → IsTelling s l.fn.lane (get_or all l.fn.lane []) given (g.P.LanePieces.are_lanes l.fn.lanes was all × AreShort all) l.fn.self l.fn.outputs was (g.S.Store.files l.fn.store)
      → IsTelling s l.fn.lane (get_or all l.fn.lane []) given (g.P.LanePieces.are_lanes l.lanes was all × AreShort all) l.self l.outputs was (g.S.Store.files l.store);
}

abbrev pub decreases-pieces : goal.decreases-pieces
decreases-pieces g l = lane_limit + 4097 - l.self.offset
