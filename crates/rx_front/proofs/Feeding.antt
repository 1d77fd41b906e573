-- A front that is fed.
use Rattle.std.proofs.Common.{ℕ, zero, suc, ◌≡◌, refl, sym, ap, ◌∙◌, subst, ◌≤◌, Bool, true, false, List, [], ◌∷◌, length, replicate, All, max, arith}
use Rattle.std.specs.Prelude.{not}
use Rattle.std.proofs.lemmas.Bool.{and_parts}
use Rattle.std.proofs.lemmas.List.{length-append, length-replicate}
use Rattle.std.proofs.lemmas.List.Elements.{All-head, All-tail}
use Rattle.lk_base.specs.declared.word.Aligned.{Aligned}
use Rattle.lk_base.specs.Link.{Settings, IsLink}
use Rattle.lock_model.specs.declared.types.LaneStep.{LaneStep}
use Rattle.event_model.specs.Fed.{Fed, all_finished, longest}
use Rattle.epoch_model.proofs.Leasts.{clash}
use Rattle.deskew.specs.States as deskew
use Rattle.deskew.specs.Stands as deskews
use Rattle.deskew.proofs.Running.{running_begins}
use Rattle.rx_front.specs.States.{Lane, State, with_lanes}
use Rattle.rx_front.specs.Lanes.{AllStand, IsFresh}
use Rattle.rx_front.specs.Calls.{fed_more, finished_at, is_open, lanes_fed, lanes_finished, nothing_fed}
use Rattle.rx_front.specs.Standing.{AtRound, Progress, Stands, begun}
use Rattle.rx_front.proofs.Places.{all_fed, all_finish}

-- ---- a lane is open: not all are finished

pub not_all : (i : ℕ) (lanes : List Lane) (s : Settings) (rounds : ℕ) (fed : List Fed) (columns : List (List LaneStep)) → is_open i lanes ≡ true → AllStand lanes s rounds fed columns → all_finished fed ≡ true → ⊥
not_all i [] s rounds fed columns o st over = (let f : false ≡ true = o in cc)
not_all zero (v ∷ lanes) s rounds (lane ∷ fed) (column ∷ columns) o st over =
    let parts = and_parts lane.finished (all_finished fed) over in
    let e : not v.finished ≡ false = ap not (st.0.finished ∙ parts.0) in
    clash o e
not_all (suc i) (v ∷ lanes) s rounds (lane ∷ fed) (column ∷ columns) o st over = not_all i lanes s rounds fed columns o st.1 ((and_parts lane.finished (all_finished fed) over).1)
not_all i lanes s rounds fed columns o st over = absurd st

more_longest : (i : ℕ) (bytes : List ℕ) (fed : List Fed) → longest fed ≤ longest (fed_more i bytes fed)
more_longest i bytes [] = omega arith
more_longest zero bytes (lane ∷ fed) = (let l = length-append lane.bytes bytes in omega (arith, l))
more_longest (suc i) bytes (lane ∷ fed) = (let l = more_longest i bytes fed in omega (arith, l))

pub finished_longest : (i : ℕ) (fed : List Fed) → longest (finished_at i fed) ≡ longest fed
finished_longest i [] = refl
finished_longest zero (lane ∷ fed) = refl
finished_longest (suc i) (lane ∷ fed) = ap (max (length lane.bytes)) (finished_longest i fed)

more_count : (i : ℕ) (bytes : List ℕ) (fed : List Fed) → length (fed_more i bytes fed) ≡ length fed
more_count i bytes [] = refl
more_count zero bytes (lane ∷ fed) = refl
more_count (suc i) bytes (lane ∷ fed) = ap suc (more_count i bytes fed)

finished_count : (i : ℕ) (fed : List Fed) → length (finished_at i fed) ≡ length fed
finished_count i [] = refl
finished_count zero (lane ∷ fed) = refl
finished_count (suc i) (lane ∷ fed) = ap suc (finished_count i fed)

-- while a lane is open rounds go on
still_runs : (over : Bool) (fed more : List Fed) (rounds : ℕ) → (all_finished fed ≡ true → ⊥) → longest fed ≤ longest more → AtRound over fed rounds → AtRound over more rounds
still_runs false fed more rounds some le h = omega (arith, h, le)
still_runs true fed more rounds some le h = absurd (some h.0)

pub fed_stands : (v w : State) (i : ℕ) (bytes : List ℕ) (s : Settings) (fed : List Fed) (items : List Aligned) (t : Progress) → is_open i v.lanes ≡ true → w ≡ with_lanes (lanes_fed i bytes v.lanes) v →
    Stands v s fed items t → Stands w s (fed_more i bytes fed) items t
fed_stands v w i bytes s fed items t o e st = subst (λ (x : State). Stands x s (fed_more i bytes fed) items t) (sym e) (record {
  link = st.link;
  lane_count = more_count i bytes fed ∙ st.lane_count;
  time = st.time;
  lanes = all_fed i bytes v.lanes s t.rounds fed t.columns o st.lanes;
  deskew = st.deskew;
  at_round = still_runs v.over fed (fed_more i bytes fed) t.rounds (not_all i v.lanes s t.rounds fed t.columns o st.lanes) (more_longest i bytes fed) st.at_round;
})

pub finished_stands : (v w : State) (i : ℕ) (s : Settings) (fed : List Fed) (items : List Aligned) (t : Progress) → is_open i v.lanes ≡ true → w ≡ with_lanes (lanes_finished i v.lanes) v →
    Stands v s fed items t → Stands w s (finished_at i fed) items t
finished_stands v w i s fed items t o e st = subst (λ (x : State). Stands x s (finished_at i fed) items t) (sym e) (record {
  link = st.link;
  lane_count = finished_count i fed ∙ st.lane_count;
  time = st.time;
  lanes = all_finish i v.lanes s t.rounds fed t.columns o st.lanes;
  deskew = st.deskew;
  at_round = still_runs v.over fed (finished_at i fed) t.rounds (not_all i v.lanes s t.rounds fed t.columns o st.lanes) (let l = finished_longest i fed in omega (arith, l)) st.at_round;
})

-- ---- a fresh front

all_fresh : (s : Settings) (n : ℕ) (lanes : List Lane) → length lanes ≡ n → All (λ v. IsFresh s v) lanes → AllStand lanes s 0 (nothing_fed n) (replicate n [])
all_fresh s zero [] e h = tt
all_fresh s (suc n) (v ∷ lanes) e h = (All-head (λ v. IsFresh s v) v lanes h, all_fresh s n lanes (omega (arith, e)) (All-tail (λ v. IsFresh s v) v lanes h))
all_fresh s n lanes e h = absurd (omega (arith, e))

pub fresh_stands : (s : Settings) (lanes : List Lane) (d : deskew.State) → IsLink s → length lanes ≡ s.lanes → All (λ v. IsFresh s v) lanes → deskews.Stands d s [] [] →
    Stands (record { lanes = lanes; left = 0; deskew = d; waiting = []; over = false }) s (nothing_fed s.lanes) [] (begun s.lanes)
fresh_stands s lanes d link count fresh deskew = record {
  link = link;
  lane_count = length-replicate s.lanes (record { bytes = []; finished = false });
  time = refl;
  lanes = all_fresh s s.lanes lanes count fresh;
  deskew = running_begins d s [] [] deskew;
  at_round = omega arith;
}
