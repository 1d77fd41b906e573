-- What is known where a front stands.
use Rattle.std.proofs.Common.{ℕ, suc, ◌≡◌, refl, sym, ap, ◌∙◌, subst, ◌*◌, ◌≤◌, ◌==◌, Bool, true, false, List, [], ◌∷◌, ◌++◌, length, take, drop, Option, Some, None, min, append_assoc, append-nil, arith, inl, inr, eqb-true}
use Rattle.std.specs.Prelude.{◌||◌, cond, not}
use Rattle.std.proofs.lemmas.Bool.{cases_Bool, not-false}
use Rattle.std.proofs.lemmas.List.{length-drop, take-append-drop}
use Rattle.std.proofs.lemmas.Option.{none-some, same_Some}
use Rattle.lk_base.specs.declared.word.Aligned.{Aligned}
use Rattle.lk_base.specs.Link.{Settings}
use Rattle.event_model.proofs.Clocks.{one_or_none}
use Rattle.lock_model.specs.declared.types.LaneStep.{LaneStep}
use Rattle.receive_model.specs.Behind.{comes_behind}
use Rattle.epoch_model.specs.SoFar.{AreKnown, LaneSoFar}
use Rattle.event_model.specs.Fed.{Fed, clock_of, least_unfinished, lesser, longest, rounds as rounds_of}
use Rattle.event_model.specs.Given.{AreItems}
use Rattle.event_model.proofs.KnownItems.{items_exist, items_rise}
use Rattle.deskew.specs.Stands as deskews
use Rattle.deskew.specs.States as deskew
use Rattle.deskew.proofs.Running.{running_begins}
use Rattle.deskew.specs.Ticks.{lanes_shown, ticks_of}
use Rattle.rx_front.specs.States.{Lane, State}
use Rattle.rx_front.specs.Lanes.{AllStand, are_ready, is_ready}
use Rattle.rx_front.specs.Standing.{AtRound, GivesItem, Progress, Stands}
use Rattle.rx_front.proofs.Clocked.{shown_at_clock}

-- ---- the clock is within that of all rounds

lesser_from : (r n : ℕ) (least : Option ℕ) → r ≤ n → ((m : ℕ) → least ≡ Some m → r ≤ m) → r ≤ lesser n least
lesser_from r n None le h = le
lesser_from r n (Some m) le h = (let k = h m refl in omega (arith, le, k))

within_least : (lanes : List Lane) (s : Settings) (r : ℕ) (fed : List Fed) (columns : List (List LaneStep)) → AllStand lanes s r fed columns → (m : ℕ) → least_unfinished fed ≡ Some m → r ≤ m
within_least lanes s r [] columns st m e = absurd (none-some m e)
within_least (v ∷ lanes) s r (lane ∷ fed) (column ∷ columns) st m e = elim (cases_Bool lane.finished) [
  | inl over ↦ within_least lanes s r fed columns st.1 m (rw over at e)
  | inr open_lane ↦ (
      let here : Some (lesser (length lane.bytes) (least_unfinished fed)) ≡ Some m = (rw open_lane at e) in
      let same = same_Some (lesser (length lane.bytes) (least_unfinished fed)) m here in
      let le = lesser_from r (length lane.bytes) (least_unfinished fed) (st.0.in_time open_lane) (λ k f. within_least lanes s r fed columns st.1 k f) in
      omega (arith, same, le))
]
within_least lanes s r fed columns st m e = absurd st

at_most : (over : Bool) (fed : List Fed) (rounds : ℕ) → AtRound over fed rounds → rounds ≤ suc (longest fed)
at_most false fed rounds h = omega (arith, h)
at_most true fed rounds h = (let e = h.1 in omega (arith, e))

pub rounds_in : (v : State) (s : Settings) (fed : List Fed) (items : List Aligned) (t : Progress) → Stands v s fed items t → t.rounds ≤ rounds_of fed
rounds_in v s fed items t st = elim (one_or_none (least_unfinished fed)) [
  | inl none ↦ rw none (at_most v.over fed t.rounds st.at_round)
  | inr some ↦ rw some.1 (within_least v.lanes s t.rounds fed t.columns st.lanes some.0 some.1)
]

pub clock_in : (v : State) (s : Settings) (fed : List Fed) (items : List Aligned) (t : Progress) → Stands v s fed items t → (t.clock ≤ 8 * t.rounds) × (t.clock ≤ clock_of fed)
clock_in v s fed items t st = (let time = st.time in let r = rounds_in v s fed items t st in (omega (arith, time), omega (arith, time, r)))

-- ---- what is known at the clock is what the deskew knows

pub known_here : (v : State) (s : Settings) (fed : List Fed) (items : List Aligned) (t : Progress) → Stands v s fed items t → (known : List Aligned) →
    AreItems s t.clock fed known → AreKnown s (lanes_shown s.lanes (ticks_of t.columns t.clock)) known
known_here v s fed items t st known are =
    subst (λ (lanes : List LaneSoFar). AreKnown s lanes known)
    (sym (shown_at_clock v.lanes s t.rounds t.clock fed t.columns are.received st.link st.lane_count (clock_in v s fed items t st).0 st.lanes are.bits)) are.are

-- the items that were taken are the first of them
pub taken_first : (v : State) (s : Settings) (fed : List Fed) (items : List Aligned) (t : Progress) → Stands v s fed items t → (known : List Aligned) → AreItems s t.clock fed known → (rest : List Aligned) × (known ≡ items ++ rest)
taken_first v s fed items t st known are =
    let found = st.deskew.known known (known_here v s fed items t st known are) in
    (v.waiting ++ found.0, found.1 ∙ append_assoc items v.waiting found.0)

-- each of them comes after those before it
pub taken_rise : (v : State) (s : Settings) (fed : List Fed) (before after : List Aligned) (a : Aligned) (t : Progress) → Stands v s fed (before ++ a ∷ after) t → comes_behind before a ≡ true
taken_rise v s fed before after a t st =
    let lanes = st.link.lanes.0 in
    let long = st.link.metaframe.0 in
    let count = st.lane_count in
    let found = items_exist s t.clock fed (omega (arith, long)) (omega (arith, lanes, count)) in
    let first = taken_first v s fed (before ++ a ∷ after) t st found.0 found.1 in
    (items_rise s t.clock fed found.0 st.link.deskew_below_half (clock_in v s fed (before ++ a ∷ after) t st).1 found.1 before (after ++ first.0) a
    (first.1 ∙ append_assoc before (a ∷ after) first.0)).0

-- ---- the next item

abbrev pub with_deskew : deskew.State → State → State
with_deskew d v = record { lanes = v.lanes; left = v.left; deskew = d; waiting = v.waiting; over = v.over }

pub item_given : (v : State) (d : deskew.State) (item : Option Aligned) (s : Settings) (fed : List Fed) (items : List Aligned) (t : Progress) → v.waiting ≡ [] → (item ≡ None → d.settled ≡ true) →
    ((s : Settings) (ticks : List (List LaneStep)) (given : List Aligned) → deskews.StandsAhead v.deskew s ticks given → deskews.GivesAhead item d s ticks given) →
    Stands v s fed items t → GivesItem item (with_deskew d v) s fed items t
item_given v d item s fed items t none settled gives st =
    go item settled (gives s (ticks_of t.columns t.clock) items (subst (λ (is : List Aligned). deskews.StandsAhead v.deskew s (ticks_of t.columns t.clock) is) (all items) st.deskew))
  where
    all : (given : List Aligned) → given ++ v.waiting ≡ given
    all given = ap (λ (is : List Aligned). given ++ is) none ∙ append-nil given

    stands : (given : List Aligned) → deskews.StandsAhead d s (ticks_of t.columns t.clock) given → Stands (with_deskew d v) s fed given t
    stands given ahead = record {
      link = st.link;
      lane_count = st.lane_count;
      time = st.time;
      lanes = st.lanes;
      deskew = subst (λ (is : List Aligned). deskews.StandsAhead d s (ticks_of t.columns t.clock) is) (sym (all given)) ahead;
      at_round = st.at_round;
    }

    go : (item : Option Aligned) → (item ≡ None → d.settled ≡ true) → deskews.GivesAhead item d s (ticks_of t.columns t.clock) items → GivesItem item (with_deskew d v) s fed items t
    go None h g = record {
      stands = stands items (running_begins d s (ticks_of t.columns t.clock) items g.1);
      none = none;
      all = λ known are. g.0 known (known_here v s fed items t st known are);
      settled = h refl;
    }
    go (Some a) h g = stands (items ++ a ∷ []) g

-- ---- words

abbrev pub with_words : deskew.State → List Aligned → State → State
with_words d words v = record { lanes = v.lanes; left = v.left; deskew = d; waiting = words; over = v.over }

-- the deskew gives words, where none wait
pub words_given : (v : State) (d : deskew.State) (words : List Aligned) (s : Settings) (fed : List Fed) (items : List Aligned) (t : Progress) → v.waiting ≡ [] →
    ((s : Settings) (ticks : List (List LaneStep)) (before : List Aligned) → deskews.StandsAhead v.deskew s ticks before → deskews.StandsAhead d s ticks (before ++ words)) →
    Stands v s fed items t → Stands (with_words d words v) s fed items t
words_given v d words s fed items t none gives st = record {
  link = st.link;
  lane_count = st.lane_count;
  time = st.time;
  lanes = st.lanes;
  deskew = gives s (ticks_of t.columns t.clock) items
      (subst (λ (is : List Aligned). deskews.StandsAhead v.deskew s (ticks_of t.columns t.clock) is) (ap (λ (is : List Aligned). items ++ is) none ∙ append-nil items) st.deskew);
  at_round = st.at_round;
}

-- the first of those that wait are taken
pub words_taken : (v : State) (n : ℕ) (s : Settings) (fed : List Fed) (items : List Aligned) (t : Progress) → Stands v s fed items t → Stands (with_words v.deskew (drop n v.waiting) v) s fed (items ++ take n v.waiting) t
words_taken v n s fed items t st = record {
  link = st.link;
  lane_count = st.lane_count;
  time = st.time;
  lanes = st.lanes;
  deskew = subst (λ (is : List Aligned). deskews.StandsAhead v.deskew s (ticks_of t.columns t.clock) is)
      (ap (λ (is : List Aligned). items ++ is) (sym (take-append-drop n v.waiting)) ∙ sym (append_assoc items (take n v.waiting) (drop n v.waiting))) st.deskew;
  at_round = st.at_round;
}

-- ---- a lane that is not finished lacks a byte

parts : (over : Bool) (ring : List ℕ) → (over || not (length ring == 0)) ≡ false → (over ≡ false) × (length ring ≡ 0)
parts true ring e = absurd (let f : true ≡ false = e in cc)
parts false ring e = (refl, eqb-true (length ring) 0 (not-false (length ring == 0) e))

with_rest : (over : Bool) (n m r : ℕ) (rest : Option ℕ) → rest ≡ Some m → m ≤ r → (k : ℕ) × (cond over rest (Some (lesser n rest)) ≡ Some k) × (k ≤ r)
with_rest true n m r rest e le = (m, e, le)
with_rest false n m r rest e le = (min n m, ap (λ o. Some (lesser n o)) e, omega (arith, le))

lesser_low : (n r : ℕ) (rest : Option ℕ) → n ≤ r → lesser n rest ≤ r
lesser_low n r None le = le
lesser_low n r (Some m) le = omega (arith, le)

pub unready : (lanes : List Lane) (s : Settings) (rounds : ℕ) (fed : List Fed) (columns : List (List LaneStep)) → AllStand lanes s rounds fed columns → are_ready lanes ≡ false →
    (m : ℕ) × (least_unfinished fed ≡ Some m) × (m ≤ rounds)
unready (v ∷ lanes) s rounds (lane ∷ fed) (column ∷ columns) st e = elim (cases_Bool (is_ready v)) [
  | inl ready ↦ (
      let found = unready lanes s rounds fed columns st.1 (rw ready at e) in
      with_rest lane.finished (length lane.bytes) found.0 rounds (least_unfinished fed) found.1 found.2)
  | inr lacking ↦ (
      let p = parts v.finished v.ring lacking in
      let unfinished : lane.finished ≡ false = sym st.0.finished ∙ p.0 in
      let l = ap length st.0.ring in
      let d = length-drop rounds lane.bytes in
      let z = p.1 in
      let le : length lane.bytes ≤ rounds = omega (arith, l, d, z) in
      (lesser (length lane.bytes) (least_unfinished fed), (rw unfinished refl), lesser_low (length lane.bytes) rounds (least_unfinished fed) le))
]
unready lanes s rounds fed columns st e = absurd (first_of (assumption, cc))
