use Rattle.std.proofs.Common.{◌≡◌, ◌≤◌, ◌^◌, ℕ, List, Option, map, slice_get, Some}
use Rattle.lk_base.specs.Link.{Settings}
use Rattle.lk_outside.specs.Files.{Files}
use Rattle.event_model.specs.Fed.{Fed}
use Rattle.lane_receipts.specs.Feeding.{offset_of}
use Rattle.lane_receipts.specs.Holding.{left_in}
use Rattle.gather_commands.specs.Taking.{IsGathering}
use Rattle.gather_commands.specs.Lanes.{IsFeeding}
use Rattle.gather_commands.proofs.lanes.take_lanes.Given as goal

-- lanes were fed so far, and all items that are known were gathered
abbrev pub invariant-loop-next : goal.invariant-loop-next
invariant-loop-next g l = record {
  same_faults : g.S.Store.faults l.store ≡ g.S.Store.faults l.fn.store;
  limits : g.P.LanePieces.fits l.lanes;
  many : g.P.LanePieces.lane_count l.lanes ≡ g.P.LanePieces.lane_count l.fn.lanes;
  named : g.P.LanePieces.file_names l.lanes ≡ g.P.LanePieces.file_names l.fn.lanes;
  within : (lane at : ℕ) → slice_get l.offsets lane ≡ Some (Some at) → at ≤ 2 ^ 56;
  feeding : (out : List ℕ) (s : Settings) (first : List Fed) (was : Option Files) → IsGathering out s first l.fn.gatherer was (g.S.Store.files l.fn.store) → l.fn.offsets ≡ map offset_of first →
      (fed : List Fed) × IsFeeding out s (g.P.LanePieces.are_lanes l.fn.lanes was) (g.P.LanePieces.are_lanes l.lanes was) first fed l.gatherer l.offsets was (g.S.Store.files l.store);
}

abbrev pub decreases-loop-next : goal.decreases-loop-next
decreases-loop-next g l = left_in (2 ^ 56) l.offsets
