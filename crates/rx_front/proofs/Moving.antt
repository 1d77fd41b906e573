-- Rounds of all lanes, lane by lane.
use Rattle.std.proofs.Common.{ℕ, zero, suc, ◌≡◌, refl, ap, ◌∙◌, subst, sym, ◌+◌, ◌-◌, ◌*◌, ◌==◌, ◌<◌, ◌≤◌, true, false, List, [], ◌∷◌, ◌++◌, length, map, get_or, arith, inl, inr, All}
use Rattle.std.proofs.lemmas.Bool.{cases_Bool}
use Rattle.std.proofs.lemmas.List.{get_or-append-add, get_or-map, get_or_append_left, length-drop, length-map}
use Rattle.std.proofs.lemmas.List.Sums.{sum_by-cons}
use Rattle.lk_base.specs.Link.{Settings}
use Rattle.lock_model.specs.declared.types.LaneStep.{LaneStep}
use Rattle.lock_model.specs.declared.types.LaneStep.TheVariants as steps
use Rattle.event_model.specs.Fed.{Fed, longest}
use Rattle.deskew.specs.Ahead.{AreLong}
use Rattle.deskew.specs.States as deskew
use Rattle.deskew.specs.Ticks.{tick_at}
use Rattle.rx_front.specs.Batches.{TookBatch}
use Rattle.rx_front.specs.States.{Lane}
use Rattle.rx_front.specs.Lanes.{AllStand, AreTaken, HasBytes, IsMoved, are_empty, both, bytes_left, is_empty}
use Rattle.rx_front.proofs.AtPlaces.{all_stand, count_columns, stands_at}

-- this many rounds, in which each lane completed these steps
pub record AllMoved (n : ℕ) (lanes later : List Lane) (more : List (List LaneStep)) : Type 0 where
  pub same : length later ≡ length lanes
  pub count : length more ≡ length lanes
  pub each : (i : ℕ) (d e : Lane) → i < length lanes → IsMoved n (get_or lanes i d) (get_or later i e) (get_or more i [])

-- the steps that they keep
abbrev pub kept : List Lane → List (List LaneStep)
kept lanes = map (λ v. v.steps) lanes

pub taken_moved : (n : ℕ) (lanes later : List Lane) → AreTaken n lanes later → AllMoved n lanes later (kept later)
taken_moved n lanes later t = record {
  same = t.same;
  count = length-map later (λ (v : Lane). v.steps) ∙ t.same;
  each = λ i d e lt.
      let here = get_or-map (λ (v : Lane). v.steps) later i e [] (let m = t.same in omega (arith, m, lt)) in
      subst (λ (column : List LaneStep). IsMoved n (get_or lanes i d) (get_or later i e) column) (sym here) (t.each i d e lt);
}

pub batch_moved : (n : ℕ) (lanes later : List Lane) (d e : deskew.State) (took : TookBatch n lanes later d e) → AllMoved n lanes later took.columns
batch_moved n lanes later d e took = record { same = took.batches.same; count = took.count; each = λ i d e lt. (took.batches.each i d e lt).moved }

-- ---- the steps

both_length : (columns more : List (List LaneStep)) → length (both columns more) ≡ length columns
both_length [] more = refl
both_length (c ∷ columns) [] = refl
both_length (c ∷ columns) (x ∷ more) = ap suc (both_length columns more)

both_at : (columns more : List (List LaneStep)) (i : ℕ) → i < length columns → i < length more → get_or (both columns more) i [] ≡ get_or columns i [] ++ get_or more i []
both_at (c ∷ columns) (x ∷ more) zero lt there = refl
both_at (c ∷ columns) (x ∷ more) (suc i) lt there = both_at columns more i (omega (arith, lt)) (omega (arith, there))
both_at columns more i lt there = absurd (omega (arith, lt, there))

pub all_moved : (n : ℕ) (lanes later : List Lane) (s : Settings) (rounds : ℕ) (fed : List Fed) (columns more : List (List LaneStep)) → AllMoved n lanes later more → AllStand lanes s rounds fed columns →
    AllStand later s (rounds + n) fed (both columns more)
all_moved n lanes later s rounds fed columns more m st =
    let k = count_columns lanes s rounds fed columns st in
    let long = k.0 in
    let count = k.1 in
    let same = m.same in
    let further = m.count in
    all_stand later s (rounds + n) fed (both columns more) (same ∙ count) (both_length columns more ∙ long) (λ i d e lt. (
    let there : i < length lanes = omega (arith, lt, same) in
    let column = both_at columns more i (omega (arith, there, long, count)) (omega (arith, there, further)) in
    rw column ((m.each i d d there).stands s rounds (get_or fed i e) (get_or columns i []) (stands_at lanes s rounds fed columns i d e there st))))

long_each : (n : ℕ) (more : List (List LaneStep)) → ((i : ℕ) → i < length more → length (get_or more i []) ≡ n) → AreLong n more
long_each n [] h = tt
long_each n (x ∷ more) h = (h 0 (omega arith), long_each n more (λ i lt. h (suc i) (omega (arith, lt))))

pub moved_long : (n : ℕ) (lanes later : List Lane) (more : List (List LaneStep)) → AllMoved n lanes later more → AreLong (8 * n) more
moved_long n [] later more m = long_each (8 * n) more (λ i lt. absurd (let c = m.count in omega (arith, c, lt)))
moved_long n (v ∷ lanes) later more m = long_each (8 * n) more (λ i lt. (m.each i v v (let c = m.count in omega (arith, c, lt))).long)

joined : (x y : LaneStep) (xs ys : List LaneStep) → x ≡ y → xs ≡ ys → ◌≡◌ {A = List LaneStep} (x ∷ xs) (y ∷ ys)
joined x y xs ys e f = cc

-- those of the bits before are those of the columns before, and then come those of the further columns
pub first_ticks : (a k : ℕ) (columns more : List (List LaneStep)) → k < a → AreLong a columns → tick_at (both columns more) k ≡ tick_at columns k
first_ticks a k [] more lt long = refl
first_ticks a k (c ∷ columns) [] lt long = refl
first_ticks a k (c ∷ columns) (x ∷ more) lt long =
    joined (get_or (c ++ x) k steps.Ended) (get_or c k steps.Ended) (tick_at (both columns more) k) (tick_at columns k)
    (get_or_append_left c x steps.Ended k (let l = long.0 in omega (arith, l, lt))) (first_ticks a k columns more lt long.1)

pub later_ticks : (a k : ℕ) (columns more : List (List LaneStep)) → length more ≡ length columns → AreLong a columns → tick_at (both columns more) (a + k) ≡ tick_at more k
later_ticks a k [] [] same long = refl
later_ticks a k (c ∷ columns) (x ∷ more) same long =
    joined (get_or (c ++ x) (a + k) steps.Ended) (get_or x k steps.Ended) (tick_at (both columns more) (a + k)) (tick_at more k)
    (ap (λ (m : ℕ). get_or (c ++ x) (m + k) steps.Ended) (sym long.0) ∙ get_or-append-add c x k steps.Ended) (later_ticks a k columns more (omega (arith, same)) long.1)
later_ticks a k columns more same long = absurd (omega (arith, same))

-- ---- the bytes

-- some lane has this many bytes
pub record HasSome (n : ℕ) (lanes : List Lane) : Type 0 where
  pub at : ℕ
  pub below : at < length lanes
  pub there : (d : Lane) → HasBytes n (get_or lanes at d)

pub each_has : (n : ℕ) (lanes : List Lane) → 1 ≤ length lanes → All (HasBytes n) lanes → HasSome n lanes
each_has n lanes some has = record { at = 0; below = omega (arith, some); there = λ d. has 0 d (omega (arith, some)) }

pub one_has : (lanes : List Lane) → are_empty lanes ≡ false → HasSome 1 lanes
one_has [] some = absurd (let f : true ≡ false = some in cc)
one_has (v ∷ lanes) some = elim (cases_Bool (is_empty v)) [
  | inl e ↦ (let rest = one_has lanes (rw e at some) in let lt = rest.below in record { at = suc rest.at; below = omega (arith, lt); there = rest.there })
  | inr e ↦ record { at = 0; below = omega arith; there = λ d. not_zero v.ring e }
]
  where
    not_zero : (ring : List ℕ) → (length ring == 0) ≡ false → 1 ≤ length ring
    not_zero [] e = absurd (let f : true ≡ false = e in cc)
    not_zero (x ∷ ring) e = omega arith

-- then some lane has more bytes than there were rounds
pub reaches : (n : ℕ) (lanes : List Lane) (s : Settings) (rounds : ℕ) (fed : List Fed) (columns : List (List LaneStep)) → 1 ≤ n → HasSome n lanes → AllStand lanes s rounds fed columns → rounds + n ≤ longest fed
reaches n lanes s rounds fed columns some has st = go lanes fed columns has.at has.below has.there st
  where
    go : (lanes : List Lane) (fed : List Fed) (columns : List (List LaneStep)) (i : ℕ) → i < length lanes → ((d : Lane) → HasBytes n (get_or lanes i d)) → AllStand lanes s rounds fed columns → rounds + n ≤ longest fed
    go (v ∷ lanes) (lane ∷ fed) (column ∷ columns) zero lt there st =
        (let h : n ≤ length v.ring = there v in let r = ap length st.0.ring in let d = length-drop rounds lane.bytes in omega (arith, h, r, d, some))
    go (v ∷ lanes) (lane ∷ fed) (column ∷ columns) (suc i) lt there st = (let le = go lanes fed columns i (omega (arith, lt)) there st.1 in omega (arith, le))
    go lanes fed columns i lt there st = absurd (first_of (assumption, omega arith))

-- the rings after this many rounds
abbrev AreShorter : ℕ → List Lane → List Lane → Type 0
AreShorter n lanes later = (i : ℕ) (d e : Lane) → i < length lanes → length (get_or later i e).ring ≡ length (get_or lanes i d).ring - n

shorter : (n : ℕ) (lanes later : List Lane) (more : List (List LaneStep)) → AllMoved n lanes later more → AreShorter n lanes later
shorter n lanes later more m = λ i d e lt. ap length (m.each i d e lt).ring ∙ length-drop n (get_or lanes i d).ring

bytes_of : (v : Lane) (lanes : List Lane) → bytes_left (v ∷ lanes) ≡ length v.ring + bytes_left lanes
bytes_of v lanes = sum_by-cons (λ (lane : Lane). length lane.ring) v lanes

no_more_bytes : (n : ℕ) (lanes later : List Lane) → length later ≡ length lanes → AreShorter n lanes later → bytes_left later ≤ bytes_left lanes
no_more_bytes n [] [] same h = omega arith
no_more_bytes n (v ∷ lanes) (w ∷ later) same h =
    let rest = no_more_bytes n lanes later (omega (arith, same)) (λ i d e lt. h (suc i) d e (omega (arith, lt))) in
    omega (arith, bytes_of v lanes, bytes_of w later, h 0 v w (omega arith), rest)
no_more_bytes n lanes later same h = absurd (omega (arith, same))

pub no_more : (n : ℕ) (lanes later : List Lane) (more : List (List LaneStep)) → AllMoved n lanes later more → bytes_left later ≤ bytes_left lanes
no_more n lanes later more m = no_more_bytes n lanes later m.same (shorter n lanes later more m)

-- and they have fewer bytes by as many
pub fewer : (n : ℕ) (lanes later : List Lane) (more : List (List LaneStep)) → AllMoved n lanes later more → HasSome n lanes → bytes_left later + n ≤ bytes_left lanes
fewer n lanes later more m has = go lanes later has.at has.below m.same has.there (shorter n lanes later more m)
  where
    go : (lanes later : List Lane) (i : ℕ) → i < length lanes → length later ≡ length lanes → ((d : Lane) → HasBytes n (get_or lanes i d)) → AreShorter n lanes later → bytes_left later + n ≤ bytes_left lanes
    go (v ∷ lanes) (w ∷ later) zero lt same there h =
        let rest = no_more_bytes n lanes later (omega (arith, same)) (λ i d e lt. h (suc i) d e (omega (arith, lt))) in
        omega (arith, bytes_of v lanes, bytes_of w later, h 0 v w (omega arith), rest, there v)
    go (v ∷ lanes) (w ∷ later) (suc i) lt same there h =
        let rest = go lanes later i (omega (arith, lt)) (omega (arith, same)) there (λ j d e lt. h (suc j) d e (omega (arith, lt))) in
        omega (arith, bytes_of v lanes, bytes_of w later, h 0 v w (omega arith), rest)
    go lanes later i lt same there h = absurd (omega (arith, lt, same))
