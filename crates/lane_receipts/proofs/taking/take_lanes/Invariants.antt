use Rattle.std.proofs.Common.{◌≡◌, ◌≤◌, ◌^◌, ℕ, List, true, map, slice_get, Some}
use Rattle.lk_base.specs.Link.{Settings}
use Rattle.receive_model.specs.Events.{Event}
use Rattle.event_model.specs.Fed.{Fed}
use Rattle.rx_end.specs.Observing.{HasToldSome}
use Rattle.receipts.specs.Receipts.{Beginning}
use Rattle.lane_receipts.specs.Feeding.{IsTaking, offset_of}
use Rattle.lane_receipts.specs.Holding.{FollowsLanes, IsFeeding, left_in}
use Rattle.lane_receipts.proofs.taking.take_lanes.Given as goal

-- lanes were fed so far, all events that are known have come, and the observer was told of what was taken for them
abbrev pub invariant-loop-next : goal.invariant-loop-next
invariant-loop-next g l = record {
  same_faults : g.S.Store.faults l.store ≡ g.S.Store.faults l.fn.store;
  limits : g.P.LanePieces.fits l.lanes;
  many : g.P.LanePieces.lane_count l.lanes ≡ g.P.LanePieces.lane_count l.fn.lanes;
  named : g.P.LanePieces.file_names l.lanes ≡ g.P.LanePieces.file_names l.fn.lanes;
  within : (lane at : ℕ) → slice_get l.offsets lane ≡ Some (Some at) → at ≤ 2 ^ 56;
  feeding : (b : Beginning) (s : Settings) (first : List Fed) (given : List Event) → IsTaking b s first given l.fn.receiver l.fn.receipt (g.S.Store.files l.fn.store) → l.fn.offsets ≡ map offset_of first →
      (fed : List Fed) × (came : List Event) × IsFeeding b s (g.P.LanePieces.are_lanes l.fn.lanes b.was) (g.P.LanePieces.are_lanes l.lanes b.was) first fed came l.receiver l.offsets l.receipt (g.S.Store.files l.store)
      × FollowsLanes g.O.Observer.keeps g.O.Observer.saw l.fn.observer l.observer l.fn.receiver l.receiver s (g.P.LanePieces.are_lanes l.fn.lanes b.was) first fed;
  fixed : g.O.Observer.fixed l.observer ≡ g.O.Observer.fixed l.fn.observer;
  told : g.O.Observer.asks ≡ true → HasToldSome g.O.Observer.keeps l.observer l.receiver;
}

abbrev pub decreases-loop-next : goal.decreases-loop-next
decreases-loop-next g l = left_in (2 ^ 56) l.offsets
