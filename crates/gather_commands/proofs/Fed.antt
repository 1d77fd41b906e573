-- Lanes that were fed to a gatherer: the one of which the least was fed has room for a piece, and what is fed next is theirs.
use Rattle.std.proofs.Common.{◌≡◌, ℕ, zero, suc, true, List, [], ◌∷◌, length, map, slice_get, refl, sym, ap, ◌∙◌, subst, Option, Some, None}
use Rattle.std.specs.Prelude.{not}
use Rattle.std.proofs.lemmas.Option.{slice_get_within}
use Rattle.lk_base.specs.Link.{Settings}
use Rattle.lk_outside.specs.Files.{Files}
use Rattle.lock_model.specs.declared.types.LaneStep.{LaneStep}
use Rattle.event_model.specs.Fed.{Fed, all_finished, least_unfinished}
use Rattle.rx_front.specs.Calls.{bytes_at, count_at, is_open, is_unfinished, room_at}
use Rattle.rx_front.specs.Lanes.{AllStand}
use Rattle.rx_front.specs.States.{Lane}
use Rattle.lane_receipts.specs.declared.lane_offsets.OpenLane.{OpenLane}
use Rattle.lane_receipts.specs.Feeding.{IsLeastOpen, IsLeastOrNone, offset_of}
use Rattle.lane_receipts.proofs.FedLanes.{all_end, least_is, open_is, room_there}
use Rattle.lane_receipts.proofs.LaneOffsets.{all_over}
use Rattle.gather_commands.specs.declared.gatherer.Gatherer.{Gatherer}
use Rattle.gather_commands.specs.Taking.{HasTaken}

-- a lane of a front is open where it is not finished, and was fed as many bytes
pub lane_is : (i : ℕ) (lanes : List Lane) (s : Settings) (rounds : ℕ) (fed : List Fed) (columns : List (List LaneStep)) → AllStand lanes s rounds fed columns →
    (length lanes ≡ length fed) × (is_open i lanes ≡ is_unfinished i fed) × (count_at i lanes ≡ bytes_at i fed)
lane_is i [] s rounds [] [] st = (refl, refl, refl)
lane_is i [] s rounds [] (column ∷ columns) st = absurd st
lane_is i [] s rounds (lane ∷ fed) columns st = absurd st
lane_is i (v ∷ lanes) s rounds [] columns st = absurd st
lane_is i (v ∷ lanes) s rounds (lane ∷ fed) [] st = absurd st
lane_is zero (v ∷ lanes) s rounds (lane ∷ fed) (column ∷ columns) st =
    (ap suc (lane_is zero lanes s rounds fed columns st.1).0, ap not st.0.finished, st.0.count)
lane_is (suc i) (v ∷ lanes) s rounds (lane ∷ fed) (column ∷ columns) st =
    let rest = lane_is i lanes s rounds fed columns st.1 in
    (ap suc rest.0, rest.1, rest.2)

module _ (out : List ℕ) (s : Settings) (fed : List Fed) (g : Gatherer) (offsets : List (Option ℕ)) (was now : Option Files) (taken : HasTaken out s fed g was now) (reached : offsets ≡ map offset_of fed) where
  module _ (next : OpenLane) (least : IsLeastOpen (length offsets) offsets next.lane next.offset) where
    here : slice_get (map offset_of fed) next.lane ≡ Some (Some next.offset)
    here = subst (λ (os : List (Option ℕ)). slice_get os next.lane ≡ Some (Some next.offset)) reached least.next

    pub unfinished : is_unfinished next.lane fed ≡ true
    unfinished = (open_is fed next.lane next.offset here).0

    pub counted : bytes_at next.lane fed ≡ next.offset
    counted = (open_is fed next.lane next.offset here).1

    pub lane_open : is_open next.lane g.front.lanes ≡ true
    lane_open = (lane_is next.lane g.front.lanes s taken.progress.rounds fed taken.progress.columns taken.stands.lanes).1 ∙ unfinished

    pub lane_counted : count_at next.lane g.front.lanes ≡ next.offset
    lane_counted = (lane_is next.lane g.front.lanes s taken.progress.rounds fed taken.progress.columns taken.stands.lanes).2 ∙ counted

    least_fed : least_unfinished fed ≡ Some next.offset
    least_fed = least_is fed next.lane next.offset here (λ other n e.
        let there : slice_get offsets other ≡ Some (Some n) = subst (λ (os : List (Option ℕ)). slice_get os other ≡ Some (Some n)) (sym reached) e in
        least.least other n (slice_get_within offsets other (Some n) there) there)

    pub lane_empty : room_at next.lane g.front.lanes ≡ 4096
    lane_empty =
        let all : taken.progress.rounds ≡ next.offset = taken.rounds ∙ rw least_fed refl in
        room_there g.front.lanes s taken.progress.rounds fed taken.progress.columns next.lane taken.stands.lanes unfinished (counted ∙ sym all)

  -- all lanes are over
  pub lanes_over : IsLeastOrNone (length offsets) offsets None → all_finished fed ≡ true
  lanes_over none = all_end fed (λ i a e. all_over offsets none i a (subst (λ (os : List (Option ℕ)). slice_get os i ≡ Some (Some a)) (sym reached) e))
