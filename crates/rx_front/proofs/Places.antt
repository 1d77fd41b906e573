-- A lane at its place.
use Rattle.std.proofs.Common.{ℕ, zero, suc, ◌≡◌, refl, sym, ap, ◌∙◌, subst, ◌+◌, ◌-◌, ◌*◌, ◌<◌, ◌≤◌, Bool, true, false, List, [], ◌∷◌, ◌++◌, length, get_or, set, take, drop, arith}
use Rattle.std.specs.Prelude.{min, not}
use Rattle.std.proofs.lemmas.List.{length-append, length-take-le, take-append-le, take_all, drop-append-le}
use Rattle.lk_base.specs.Link.{Settings}
use Rattle.lk_base.specs.Checksum.{bits_of_bytes}
use Rattle.lock_model.specs.declared.types.LaneStep.{LaneStep}
use Rattle.lock_model.specs.Steps.{AreSteps}
use Rattle.lane_lock.specs.Standing as lock
use Rattle.event_model.specs.Fed.{Fed, first_bits}
use Rattle.event_model.proofs.Clocks.{length-bits, bits-append}
use Rattle.rx_front.specs.States.{Lane}
use Rattle.rx_front.specs.Lanes.{AllStand, IsColumn, LaneStands, fed_lane, finished_lane}
use Rattle.rx_front.specs.Calls.{AtLane, count_at, fed_more, finished_at, is_open, lanes_fed, lanes_finished, room_at}

-- ---- what is asked of a lane, at its place in the list

pub open_below : (i : ℕ) (lanes : List Lane) → is_open i lanes ≡ true → i < length lanes
open_below i [] h = absurd (let f : false ≡ true = h in cc)
open_below zero (v ∷ lanes) h = omega arith
open_below (suc i) (v ∷ lanes) h = (let lt = open_below i lanes h in omega (arith, lt))

pub count_is : (i : ℕ) (lanes : List Lane) (d : Lane) → i < length lanes → count_at i lanes ≡ (get_or lanes i d).fed
count_is i [] d lt = absurd (omega (arith, lt))
count_is zero (v ∷ lanes) d lt = refl
count_is (suc i) (v ∷ lanes) d lt = count_is i lanes d (omega (arith, lt))

pub room_is : (i : ℕ) (lanes : List Lane) (d : Lane) → i < length lanes → room_at i lanes ≡ 4096 - length (get_or lanes i d).ring
room_is i [] d lt = absurd (omega (arith, lt))
room_is zero (v ∷ lanes) d lt = refl
room_is (suc i) (v ∷ lanes) d lt = room_is i lanes d (omega (arith, lt))

pub fed_is : (i : ℕ) (bytes : List ℕ) (lanes : List Lane) (d w : Lane) → i < length lanes → w ≡ fed_lane bytes (get_or lanes i d) → set lanes i w ≡ lanes_fed i bytes lanes
fed_is i bytes [] d w lt e = absurd (omega (arith, lt))
fed_is zero bytes (v ∷ lanes) d w lt e = ap (λ (x : Lane). x ∷ lanes) e
fed_is (suc i) bytes (v ∷ lanes) d w lt e = ap (λ (r : List Lane). v ∷ r) (fed_is i bytes lanes d w (omega (arith, lt)) e)

pub finished_is : (i : ℕ) (lanes : List Lane) (d w : Lane) → i < length lanes → w ≡ finished_lane (get_or lanes i d) → set lanes i w ≡ lanes_finished i lanes
finished_is i [] d w lt e = absurd (omega (arith, lt))
finished_is zero (v ∷ lanes) d w lt e = ap (λ (x : Lane). x ∷ lanes) e
finished_is (suc i) (v ∷ lanes) d w lt e = ap (λ (r : List Lane). v ∷ r) (finished_is i lanes d w (omega (arith, lt)) e)

pub holds_at : (i : ℕ) (lanes : List Lane) (d : Lane) (holds : Settings → ℕ → Fed → Type 0) → i < length lanes →
    ((s : Settings) (rounds : ℕ) (fed : Fed) (column : List LaneStep) → LaneStands (get_or lanes i d) s rounds fed column → holds s rounds fed) →
    (s : Settings) (rounds : ℕ) (fed : List Fed) (columns : List (List LaneStep)) → AllStand lanes s rounds fed columns → AtLane i fed (holds s rounds)
holds_at i lanes d holds lt h s rounds [] columns st = tt
holds_at zero (v ∷ lanes) d holds lt h s rounds (lane ∷ fed) (column ∷ columns) st = h s rounds lane column st.0
holds_at (suc i) (v ∷ lanes) d holds lt h s rounds (lane ∷ fed) (column ∷ columns) st = holds_at i lanes d holds (omega (arith, lt)) h s rounds fed columns st.1
holds_at i lanes d holds lt h s rounds fed columns st = absurd (first_of (assumption, omega arith))

-- ---- the relation of a lane that is not finished, with more bytes or none

same_bits : (rounds : ℕ) (bytes more : List ℕ) → rounds ≤ length bytes → take (8 * rounds) (bits_of_bytes (bytes ++ more)) ≡ take (8 * rounds) (bits_of_bytes bytes)
same_bits rounds bytes more le =
    ap (take (8 * rounds)) (bits-append bytes more) ∙ take-append-le (8 * rounds) (bits_of_bytes bytes) (bits_of_bytes more) (let b = length-bits bytes in omega (arith, b, le))

with_bits : (s : Settings) (rounds : ℕ) (one other : Fed) (column : List LaneStep) → first_bits (8 * rounds) one ≡ first_bits (8 * rounds) other → IsColumn s rounds one column → IsColumn s rounds other column
with_bits s rounds one other column e is = record { own = is.own; are = subst (λ (bs : List Bool). AreSteps s bs is.own) e is.are; shown = is.shown }

pub one_fed : (v : Lane) (s : Settings) (rounds : ℕ) (lane : Fed) (column : List LaneStep) (bytes : List ℕ) → not v.finished ≡ true → LaneStands v s rounds lane column →
    LaneStands (fed_lane bytes v) s rounds (record { bytes = lane.bytes ++ bytes; finished = lane.finished }) column
one_fed v s rounds lane column bytes unfinished st =
    let le = st.in_time (sym st.finished ∙ is_not v.finished unfinished) in
    let same = same_bits rounds lane.bytes bytes le in
    record {
      ring = ap (λ r. r ++ bytes) st.ring ∙ sym (drop-append-le rounds lane.bytes bytes le);
      finished = st.finished;
      count = ap (λ n. n + length bytes) st.count ∙ sym (length-append lane.bytes bytes);
      in_time = λ o. (let l = length-append lane.bytes bytes in omega (arith, l, le));
      lock = subst (λ (bs : List Bool). lock.Stands v.lock s bs) (sym same) st.lock;
      completed = with_bits s rounds lane (record { bytes = lane.bytes ++ bytes; finished = lane.finished }) column (sym same) st.completed;
      last = st.last;
    }
  where
    is_not : (b : Bool) → not b ≡ true → b ≡ false
    is_not false e = refl
    is_not true e = absurd (let f : false ≡ true = e in cc)

pub one_finished : (v : Lane) (s : Settings) (rounds : ℕ) (lane : Fed) (column : List LaneStep) → LaneStands v s rounds lane column →
    LaneStands (finished_lane v) s rounds (record { bytes = lane.bytes; finished = true }) column
one_finished v s rounds lane column st = record {
  ring = st.ring;
  finished = refl;
  count = st.count;
  in_time = λ o. absurd (let f : true ≡ false = o in cc);
  lock = st.lock;
  completed = with_bits s rounds lane (record { bytes = lane.bytes; finished = true }) column refl st.completed;
  last = st.last;
}

pub all_fed : (i : ℕ) (bytes : List ℕ) (lanes : List Lane) (s : Settings) (rounds : ℕ) (fed : List Fed) (columns : List (List LaneStep)) → is_open i lanes ≡ true → AllStand lanes s rounds fed columns →
    AllStand (lanes_fed i bytes lanes) s rounds (fed_more i bytes fed) columns
all_fed zero bytes (v ∷ lanes) s rounds (lane ∷ fed) (column ∷ columns) o st = (one_fed v s rounds lane column bytes o st.0, st.1)
all_fed (suc i) bytes (v ∷ lanes) s rounds (lane ∷ fed) (column ∷ columns) o st = (st.0, all_fed i bytes lanes s rounds fed columns o st.1)
all_fed i bytes lanes s rounds fed columns o st = absurd (first_of (assumption, cc))

pub all_finish : (i : ℕ) (lanes : List Lane) (s : Settings) (rounds : ℕ) (fed : List Fed) (columns : List (List LaneStep)) → is_open i lanes ≡ true → AllStand lanes s rounds fed columns →
    AllStand (lanes_finished i lanes) s rounds (finished_at i fed) columns
all_finish zero (v ∷ lanes) s rounds (lane ∷ fed) (column ∷ columns) o st = (one_finished v s rounds lane column st.0, st.1)
all_finish (suc i) (v ∷ lanes) s rounds (lane ∷ fed) (column ∷ columns) o st = (st.0, all_finish i lanes s rounds fed columns o st.1)
all_finish i lanes s rounds fed columns o st = absurd (first_of (assumption, cc))

-- ---- the room after a feed

room_behind : (i : ℕ) (bytes : List ℕ) (lanes : List Lane) → is_open i lanes ≡ true → length bytes ≤ room_at i lanes → room_at i (lanes_fed i bytes lanes) + length bytes ≡ room_at i lanes
room_behind i bytes [] o le = absurd (let f : false ≡ true = o in cc)
room_behind zero bytes (v ∷ lanes) o le = (let l = length-append v.ring bytes in omega (arith, l, le))
room_behind (suc i) bytes (v ∷ lanes) o le = room_behind i bytes lanes o le

pub room_left : (i k : ℕ) (piece : List ℕ) (lanes : List Lane) → is_open i lanes ≡ true → k ≡ min (length piece) (room_at i lanes) →
    room_at i (lanes_fed i (take k piece) lanes) + k ≡ room_at i lanes
room_left i k piece lanes o e =
    let l = length-take-le k piece (omega (arith, e)) in
    subst (λ (n : ℕ). room_at i (lanes_fed i (take k piece) lanes) + n ≡ room_at i lanes) l (room_behind i (take k piece) lanes o (omega (arith, l, e)))

-- ---- a list after a call on its slice

-- a slice of the same length is written back whole
pub written : {A : Type 0} (n : ℕ) (later old : List A) → length later ≡ n → take n (later ++ drop (length later) old) ≡ later
written n later old e = take-append-le n later (drop (length later) old) (omega (arith, e)) ∙ take_all n later (omega (arith, e))
