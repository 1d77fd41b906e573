-- Lanes that are fed have few bytes still.
use Rattle.std.proofs.Common.{ℕ, zero, suc, ◌≡◌, sym, subst, ◌<◌, ◌+◌, ◌^◌, List, [], ◌∷◌, length, arith}
use Rattle.std.proofs.lemmas.List.{length-append}
use Rattle.lk_base.specs.declared.word.Aligned.{Aligned}
use Rattle.lk_base.specs.Link.{Settings}
use Rattle.lock_model.specs.declared.types.LaneStep.{LaneStep}
use Rattle.event_model.specs.Fed.{Fed, longest}
use Rattle.rx_front.specs.Calls.{count_at, fed_more, finished_at}
use Rattle.rx_front.specs.Lanes.{AllStand}
use Rattle.rx_front.specs.Standing as front
use Rattle.rx_front.specs.Standing.{Progress}
use Rattle.rx_front.specs.States as fronts
use Rattle.rx_front.specs.States.{Lane, with_lanes}
use Rattle.rx_front.proofs.Feeding.{finished_longest}
use Rattle.rx_end.specs.States.{State}
use Rattle.rx_end.specs.Observing.{Feeds, IsAtEnd}

all_few : (i : ℕ) (bytes : List ℕ) (lanes : List Lane) (s : Settings) (rounds : ℕ) (fed : List Fed) (columns : List (List LaneStep)) → count_at i lanes + length bytes < 2 ^ 57 → AllStand lanes s rounds fed columns →
    longest fed < 2 ^ 57 → longest (fed_more i bytes fed) < 2 ^ 57
all_few i bytes [] s rounds [] columns n st few = few
all_few i bytes [] s rounds (lane ∷ fed) columns n st few = absurd st
all_few i bytes (v ∷ lanes) s rounds [] columns n st few = few
all_few i bytes (v ∷ lanes) s rounds (lane ∷ fed) [] n st few = absurd st
all_few zero bytes (v ∷ lanes) s rounds (lane ∷ fed) (column ∷ columns) n st few =
    let l = length-append lane.bytes bytes in
    let c = st.0.count in
    omega (arith, l, c, n, few)
all_few (suc i) bytes (v ∷ lanes) s rounds (lane ∷ fed) (column ∷ columns) n st few =
    let r = all_few i bytes lanes s rounds fed columns n st.1 (omega (arith, few)) in
    omega (arith, r, few)

-- only the front's lanes are others
still_at_end : (lanes : List Lane) (f g : fronts.State) → g ≡ with_lanes lanes f → IsAtEnd f → IsAtEnd g
still_at_end lanes f g e h = subst (λ (x : fronts.State). IsAtEnd x) (sym e) (record { over = h.over; left = h.left; none = h.none; settled = h.settled })

pub more_fed : (i : ℕ) (bytes : List ℕ) (lanes : List Lane) (v w : State) → w.front ≡ with_lanes lanes v.front → w.stage ≡ v.stage → count_at i v.front.lanes + length bytes < 2 ^ 57 →
    ((s : Settings) (fed : List Fed) (items : List Aligned) (t : Progress) → front.Stands v.front s fed items t → front.Stands w.front s (fed_more i bytes fed) items t) → Feeds (fed_more i bytes) v w
more_fed i bytes lanes v w e stage n stands = record {
  stands = stands;
  few = λ s fed items t st few. all_few i bytes v.front.lanes s t.rounds fed t.columns n st.lanes few;
  stage = stage;
  at_end = still_at_end lanes v.front w.front e;
}

pub one_finished : (i : ℕ) (lanes : List Lane) (v w : State) → w.front ≡ with_lanes lanes v.front → w.stage ≡ v.stage →
    ((s : Settings) (fed : List Fed) (items : List Aligned) (t : Progress) → front.Stands v.front s fed items t → front.Stands w.front s (finished_at i fed) items t) → Feeds (finished_at i) v w
one_finished i lanes v w e stage stands = record {
  stands = stands;
  few = λ s fed items t st few. (let l = finished_longest i fed in omega (arith, few, l));
  stage = stage;
  at_end = still_at_end lanes v.front w.front e;
}
