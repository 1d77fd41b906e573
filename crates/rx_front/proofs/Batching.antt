-- Many rounds at once.
use Rattle.std.proofs.Common.{ℕ, zero, suc, ◌≡◌, refl, sym, ap, ◌∙◌, subst, ◌+◌, ◌-◌, ◌*◌, ◌<◌, ◌≤◌, Bool, true, false, List, [], ◌∷◌, ◌++◌, length, get_or, set, take, drop, Option, append_assoc, append-nil, All, arith, inl, inr}
use Rattle.lk_base.proofs.Lists.{map_range_same}
use Rattle.std.specs.Prelude.{◌&&◌, ◌⊎◌, Some, slice_get}
use Rattle.std.specs.List.{cons_option, list_all, list_any}
use Rattle.std.proofs.lemmas.Bool.{and_parts}
use Rattle.std.proofs.lemmas.List.{drop_all, get_or_append_left, get_or_push, length-append, length-take, length-take-le, length_push}
use Rattle.lk_base.specs.declared.word.Aligned.{Aligned}
use Rattle.lk_base.specs.Link.{Settings}
use Rattle.lk_base.specs.Checksum.{bits_of_bytes}
use Rattle.lock_model.specs.declared.types.LaneStep.{LaneStep}
use Rattle.lock_model.specs.declared.types.LaneStep.TheVariants as steps
use Rattle.lock_model.specs.Shows.{shown_in}
use Rattle.lane_lock.specs.Bytes.{Brings, BringsBatch}
use Rattle.lane_lock.specs.Lane.{LaneView}
use Rattle.lane_lock.specs.Search.{IsFar}
use Rattle.lock_model.proofs.StepsHold.{steps_exist}
use Rattle.lane_lock.proofs.Far.{far_declares_nothing}
use Rattle.event_model.specs.Fed.{Fed, first_bits}
use Rattle.event_model.proofs.Clocks.{length-bits}
use Rattle.deskew.specs.Ahead.{is_inside, is_locked, keeps_lock}
use Rattle.deskew.specs.Awaits.{AreKept, highest, is_outside, lags}
use Rattle.deskew.specs.Columns.{columns_taken}
use Rattle.deskew.specs.Stands as deskews
use Rattle.deskew.specs.States as deskew
use Rattle.deskew.specs.Steps.{steps_taken}
use Rattle.deskew.specs.Ticks.{AreTicks, steps_in, tick_at, ticks_of}
use Rattle.deskew.proofs.Awaiting.{batch_awaits}
use Rattle.deskew.proofs.Columns.{batch_of_columns, columns_keep_locks, columns_more, one_more}
use Rattle.deskew.proofs.Running.{running_ends}
use Rattle.rx_front.specs.Batches.{IsBatch, IsBatchOf, KeepLocks, MayTake, TookBatch}
use Rattle.rx_front.specs.Lanes.{AllStand, AreCovered, AreWide, HasBytes, LaneStands, both}
use Rattle.rx_front.specs.States.{Lane, State}
use Rattle.rx_front.specs.Locks.{locks_in}
use Rattle.rx_front.specs.Standing.{AtRound, MovesOn, Progress, Stands, locks_at, weight}
use Rattle.rx_front.proofs.Clocked.{are_ticks}
use Rattle.rx_front.proofs.Locks.{lock_past, no_more_locks}
use Rattle.rx_front.proofs.Rounds.{column_length, took_steps}
use Rattle.rx_front.proofs.RoundsMade.{some_has}
use Rattle.rx_front.proofs.AtPlaces.{columns_long, count_columns, stands_at}
use Rattle.rx_front.proofs.FirstDid.{FirstDid, did_as, did_more, did_none}
use Rattle.rx_front.proofs.Moving.{all_moved, batch_moved, each_has, fewer, first_ticks, later_ticks, moved_long, reaches}
use Rattle.rx_front.proofs.Taking.{all_did}

-- ---- a lane

-- it took this many bytes, and kept no step
pub is_batch : (u v : Lane) (ring : List ℕ) (later : LaneView) (given kept : List LaneStep) (n : ℕ) → v ≡ u → length given ≡ 8 * n → 1 ≤ n → n ≤ length v.ring → ring ≡ drop n v.ring → kept ≡ [] →
    Brings v.lock later (bits_of_bytes (take n v.ring)) given →
    IsBatch n u (record { ring = ring; finished = v.finished; fed = v.fed; lock = later; steps = kept }) given
is_batch u v ring later given kept n e count some has rest none goes =
    subst (λ (x : Lane). IsBatch n x (record { ring = ring; finished = v.finished; fed = v.fed; lock = later; steps = kept }) given) e (record {
      moved = record {
        ring = rest;
        long = count;
        stands = λ s rounds fed before st.
            let a = column_length s rounds fed before st.completed in
            let b = length-append before given in
            let k = ap length none in
            took_steps v ring later given kept n s rounds fed before count some has rest goes
            (none ∙ sym (drop_all (8 * (rounds + n) - length kept) (before ++ given) (omega (arith, a, b, count, k)))) st;
      };
      kept = none;
      brings = goes;
    })

-- and the deskew took the steps that they show
pub batch_of : (u v : Lane) (ring : List ℕ) (later : LaneView) (kept found : List LaneStep) (n i : ℕ) (d e : deskew.State) → v ≡ u → 1 ≤ n → n ≤ length v.ring → ring ≡ drop n v.ring → kept ≡ [] →
    BringsBatch v.lock later (bits_of_bytes (take n v.ring)) [] found → e ≡ steps_taken i found d →
    IsBatchOf n i u (record { ring = ring; finished = v.finished; fed = v.fed; lock = later; steps = kept }) d e
batch_of u v ring later kept found n i d e same some has rest none b taken =
    let l = length-bits (take n v.ring) in
    let t = length-take-le n v.ring has in
    let long = b.long in
    record {
      column = b.column;
      lane = is_batch u v ring later b.column kept n same (omega (arith, l, t, long)) some has rest none b.brings;
      deskew = taken ∙ ap (λ (xs : List LaneStep). steps_taken i xs d) b.appended;
    }

-- ---- the first lanes did

-- each as its column says
abbrev pub AsColumn : ℕ → List (List LaneStep) → ℕ → Lane → Lane → Type 0
AsColumn n columns i v w = IsBatch n v w (get_or columns i [])

pub record TookFirst (n i : ℕ) (lanes now : List Lane) (d e : deskew.State) : Type 0 where
  pub columns : List (List LaneStep)
  pub within : i ≤ length lanes
  pub count : length columns ≡ i
  pub batches : FirstDid (AsColumn n columns) i lanes now
  pub deskew : e ≡ columns_taken 0 columns d
  pub settings : e.settings ≡ d.settings

pub took_none : (n : ℕ) (lanes : List Lane) (d : deskew.State) → TookFirst n 0 lanes lanes d d
took_none n lanes d = record { columns = []; within = omega arith; count = refl; batches = did_none (AsColumn n []) lanes; deskew = refl; settings = refl }

pub took_one : (n i : ℕ) (lanes now : List Lane) (x w : Lane) (d e f : deskew.State) → i < length lanes → TookFirst n i lanes now d e → IsBatchOf n i (get_or now i x) w e f → TookFirst n (i + 1) lanes (set now i w) d f
took_one n i lanes now x w d e f lt took is =
    let more = took.columns ++ is.column ∷ [] in
    let count : i ≡ 0 + length took.columns = (let c = took.count in omega (arith, c)) in
    record {
      columns = more;
      within = omega (arith, lt);
      count = length_push took.columns is.column ∙ ap (λ (m : ℕ). m + 1) took.count;
      batches = did_more (AsColumn n more) i lanes now x w lt
          (did_as (AsColumn n took.columns) (AsColumn n more) i lanes now
          (λ j u v below h. rw (get_or_append_left took.columns (is.column ∷ []) [] j (let c = took.count in omega (arith, c, below))) h) took.batches)
          (rw (get_or_push took.columns is.column [] i took.count) is.lane);
      deskew = is.deskew ∙ ap (steps_taken i (shown_in is.column)) took.deskew
          ∙ ap (λ (m : ℕ). steps_taken m (shown_in is.column) (columns_taken 0 took.columns d)) count ∙ sym (columns_more 0 took.columns is.column d);
      settings = ap (λ (y : deskew.State). y.settings) is.deskew ∙ took.settings;
    }

pub took_all : (n i : ℕ) (lanes now : List Lane) (d e : deskew.State) → length lanes ≤ i → TookFirst n i lanes now d e → TookBatch n lanes now d e
took_all n i lanes now d e le took = record {
  columns = took.columns;
  count = (let c = took.count in let w = took.within in omega (arith, c, w, le));
  batches = all_did (AsColumn n took.columns) i lanes now le took.batches;
  deskew = took.deskew;
}

-- ---- all lanes

-- the ticks of the bits before, and then those of the further bits
ticks_joined : (all columns more : List (List LaneStep)) (a n : ℕ) → ((k : ℕ) → k < a → tick_at all k ≡ tick_at columns k) → ((k : ℕ) → tick_at all (a + k) ≡ tick_at more k) →
    ticks_of all (a + n) ≡ ticks_of columns a ++ ticks_of more n
ticks_joined all columns more a zero front back =
    let e : a + 0 ≡ a = omega arith in
    ap (ticks_of all) e ∙ map_range_same (tick_at all) (tick_at columns) a front ∙ sym (append-nil (ticks_of columns a))
ticks_joined all columns more a (suc n) front back =
    let e : a + suc n ≡ a + n + 1 = omega arith in
    let f : n + 1 ≡ suc n = omega arith in
    ap (ticks_of all) e ∙ one_more all (a + n)
    ∙ ap (λ (r : List (List LaneStep)). r ++ tick_at all (a + n) ∷ []) (ticks_joined all columns more a n front back)
    ∙ ap (λ (x : List LaneStep). (ticks_of columns a ++ ticks_of more n) ++ x ∷ []) (back n)
    ∙ append_assoc (ticks_of columns a) (ticks_of more n) (tick_at more n ∷ [])
    ∙ ap (λ (r : List (List LaneStep)). ticks_of columns a ++ r) (sym (one_more more n) ∙ ap (ticks_of more) f)

-- ---- no steps are kept

none_kept : (n : ℕ) (lanes later : List Lane) (d e : deskew.State) → TookBatch n lanes later d e → All (λ v. v.steps ≡ []) later
none_kept n lanes later d e took = λ i x lt. (took.batches.each i x x (let same = took.batches.same in omega (arith, same, lt))).kept

pub none_wide : (n : ℕ) (lanes later : List Lane) (d e : deskew.State) → TookBatch n lanes later d e → AreWide 0 later × AreCovered 0 later
none_wide n lanes later d e took = (
  (λ i x lt. ap length (none_kept n lanes later d e took i x lt)),
  (λ i x lt k below zero. absurd (let none = ap length (none_kept n lanes later d e took i x lt) in omega (arith, none, below))),
)

pub settings_kept : (k : ℕ) (columns : List (List LaneStep)) (d : deskew.State) → (columns_taken k columns d).settings ≡ d.settings
settings_kept k [] d = refl
settings_kept k (column ∷ columns) d = settings_kept (k + 1) columns (steps_taken k (shown_in column) d)

-- ---- the relation after them

abbrev pub after_batch : List Lane → deskew.State → State → State
after_batch later d v = record { lanes = later; left = v.left; deskew = d; waiting = v.waiting; over = v.over }

-- ---- the bits may be taken at once

-- steps none of which declares a lock
all_keep : (xs : List LaneStep) → ((k at : ℕ) → slice_get xs k ≡ Some (steps.Locked at) → ⊥) → list_all keeps_lock xs ≡ true
all_keep [] none = refl
all_keep (steps.Nothing ∷ xs) none = all_keep xs (λ k. none (suc k))
all_keep (steps.Word w role at ∷ xs) none = all_keep xs (λ k. none (suc k))
all_keep (steps.Locked at ∷ xs) none = absurd (none 0 at refl)
all_keep (steps.Lost why at ∷ xs) none = all_keep xs (λ k. none (suc k))
all_keep (steps.Ended ∷ xs) none = all_keep xs (λ k. none (suc k))

-- a lane that is far from a declared lock declares none
far_keeps : (n : ℕ) (v w : Lane) (column before : List LaneStep) (s : Settings) (rounds : ℕ) (fed : Fed) → 8 * n ≤ 67 * 64 → IsBatch n v w column → LaneStands v s rounds fed before → IsFar v.lock →
    list_all keeps_lock column ≡ true
far_keeps n v w column before s rounds fed few b st is_far =
    let bits = first_bits (8 * rounds) fed in
    let own = steps_exist s bits in
    let all = (b.brings s bits own.0 st.lock own.1).1 in
    let l = length-bits (take n v.ring) in
    let t = length-take n v.ring in
    all_keep column (λ k at. far_declares_nothing v.lock s bits (bits_of_bytes (take n v.ring)) own.0 column k at is_far (omega (arith, few, l, t)) st.lock own.1 all)

kept_each : (ls : List deskew.LaneState) (more : List (List LaneStep)) →
    ((i : ℕ) (e : deskew.LaneState) → i < length ls → i < length more → (is_locked (get_or ls i e) ≡ true) ⊎ (list_all keeps_lock (get_or more i []) ≡ true)) → AreKept ls more
kept_each [] more h = tt
kept_each (l ∷ ls) [] h = tt
kept_each (l ∷ ls) (x ∷ more) h = (h 0 l (omega arith) (omega arith), kept_each ls more (λ i e lt there. h (suc i) e (omega (arith, lt)) (omega (arith, there))))

are_kept : (n : ℕ) (ls : List deskew.LaneState) (lanes later : List Lane) (d e : deskew.State) (s : Settings) (rounds : ℕ) (fed : List Fed) (columns : List (List LaneStep)) → 8 * n ≤ 67 * 64 → (took : TookBatch n lanes later d e) →
    AllStand lanes s rounds fed columns → KeepLocks ls lanes → AreKept ls took.columns
are_kept n ls [] later d e s rounds fed columns few took st k = kept_each ls took.columns (λ i x lt there. absurd (let c = took.count in omega (arith, c, there)))
are_kept n ls (v ∷ lanes) later d e s rounds fed columns few took st k = kept_each ls took.columns (λ i x lt there. (
    let below : i < length (v ∷ lanes) = (let c = took.count in omega (arith, c, there)) in
    let none : Fed = record { bytes = []; finished = false } in
    elim (k i x v lt below) [
      | inl locked ↦ inl locked
      | inr is_far ↦ inr (far_keeps n (get_or (v ∷ lanes) i v) (get_or later i v) (get_or took.columns i []) (get_or columns i []) s rounds (get_or fed i none) few (took.batches.each i v v below)
          (stands_at (v ∷ lanes) s rounds fed columns i v none below st) is_far)
    ]))

is_settled : (v : State) → MayTake v → v.deskew.settled ≡ true
is_settled v (inl can) = (and_parts v.deskew.settled (is_inside v.deskew.phase) (and_parts (v.deskew.settled && is_inside v.deskew.phase) (list_all is_locked v.deskew.lanes) can).0).0
is_settled v (inr may) =
    (and_parts v.deskew.settled (is_outside v.deskew.phase && list_any (lags (67 * v.deskew.settings.deskew) (highest v.deskew.lanes)) v.deskew.lanes) may.0).0

batch_goes : (n : ℕ) (v : State) (later : List Lane) (d : deskew.State) (s : Settings) (rounds : ℕ) (fed : List Fed) (columns ticks : List (List LaneStep)) (given : List Aligned) (took : TookBatch n v.lanes later v.deskew d) → MayTake v →
    8 * n ≤ 67 * deskews.most_ahead → length took.columns ≡ s.lanes → AllStand v.lanes s rounds fed columns → AreTicks s (ticks ++ ticks_of took.columns (8 * n)) → deskews.Stands v.deskew s ticks given →
    deskews.StandsAhead (columns_taken 0 took.columns v.deskew) s (ticks ++ ticks_of took.columns (8 * n)) given × (list_all (list_all keeps_lock) (ticks_of took.columns (8 * n)) ≡ true)
batch_goes n v later d s rounds fed columns ticks given took can few count st are strict =
    let long = moved_long n v.lanes later took.columns (batch_moved n v.lanes later v.deskew d took) in
    elim can [
      | inl ahead ↦ (
        batch_of_columns v.deskew s ticks given took.columns (8 * n) ahead few count long are strict,
        columns_keep_locks v.deskew s ticks given took.columns (8 * n) ahead few count are strict,
      )
      | inr may ↦ (
          let kept = are_kept n v.deskew.lanes v.lanes later v.deskew d s rounds fed columns few took st may.1 in
          let a = batch_awaits v.deskew s ticks given took.columns (8 * n) may.0 few count long kept are strict in
          (a.0, a.2))
    ]

pub batch_moves : (n : ℕ) (v : State) (later : List Lane) (d : deskew.State) (s : Settings) (fed : List Fed) (items : List Aligned) (t : Progress) → v.over ≡ false → v.left ≡ 0 → 1 ≤ n → n ≤ 536 →
    All (HasBytes n) v.lanes → MayTake v → TookBatch n v.lanes later v.deskew d → Stands v s fed items t → MovesOn (after_batch later d v) s fed items t
batch_moves n v later d s fed items t run left some most has can took st =
    let time = st.time in
    let more = took.columns in
    let all = both t.columns more in
    let moved = batch_moved n v.lanes later v.deskew d took in
    let lanes = all_moved n v.lanes later s t.rounds fed t.columns more moved st.lanes in
    let counts = count_columns v.lanes s t.rounds fed t.columns st.lanes in
    let further = took.count in
    let columns = counts.0 in
    let count = counts.1 in
    let long = columns_long v.lanes s t.rounds fed t.columns st.lanes in
    let clock : 8 * t.rounds ≡ t.clock = omega (arith, time, left) in
    let ticks : ticks_of all (t.clock + 8 * n) ≡ ticks_of t.columns t.clock ++ ticks_of more (8 * n) = ticks_joined all t.columns more t.clock (8 * n) (λ k lt. first_ticks (8 * t.rounds) k t.columns more (omega (arith, lt, clock)) long)
    (λ k. ap (λ (m : ℕ). tick_at all (m + k)) (sym clock) ∙ later_ticks (8 * t.rounds) k t.columns more (omega (arith, further, columns, count)) long) in
    let are : AreTicks s (ticks_of t.columns t.clock ++ ticks_of more (8 * n)) = subst (λ (ts : List (List LaneStep)). AreTicks s ts) ticks
    (are_ticks later s (t.rounds + n) (t.clock + 8 * n) fed all st.lane_count (omega (arith, time)) lanes) in
    let settled = is_settled v can in
    let strict = (running_ends v.deskew s (ticks_of t.columns t.clock) (items ++ v.waiting) settled st.deskew).1 in
    let went = batch_goes n v later d s t.rounds fed t.columns (ticks_of t.columns t.clock) (items ++ v.waiting) took can (omega (arith, most)) (further ∙ count ∙ st.lane_count) st.lanes are strict in
    record {
      to = record { rounds = t.rounds + n; clock = t.clock + 8 * n; columns = all };
      stands = record {
        link = st.link;
        lane_count = st.lane_count;
        time = omega (arith, time);
        lanes = lanes;
        deskew = subst (λ (ts : List (List LaneStep)). deskews.StandsAhead d s ts (items ++ v.waiting)) (sym ticks)
            (subst (λ (e : deskew.State). deskews.StandsAhead e s (ticks_of t.columns t.clock ++ ticks_of more (8 * n)) (items ++ v.waiting)) (sym took.deskew) went.0);
        at_round = subst (λ (b : Bool). AtRound b fed (t.rounds + n)) (sym run) (reaches n v.lanes s t.rounds fed t.columns some (some_has v s fed items t n has st) st.lanes);
      };
      locks = λ i. ap (λ (ts : List (List LaneStep)). locks_in (steps_in i ts)) ticks ∙ no_more_locks i (ticks_of t.columns t.clock) (ticks_of more (8 * n)) went.1
          ∙ ap (λ (o : Option ℕ). locks_at i t ++ cons_option o []) (sym (lock_past i v.left 0 later (omega arith) (none_wide n v.lanes later v.deskew d took).0));
    }

-- ---- fewer bytes are left

pub less_by_batch : (n : ℕ) (v : State) (later : List Lane) (d : deskew.State) → 1 ≤ n → 1 ≤ length v.lanes → All (HasBytes n) v.lanes → TookBatch n v.lanes later v.deskew d → weight (after_batch later d v) < weight v
less_by_batch n v later d some lanes has took =
    (let le = fewer n v.lanes later took.columns (batch_moved n v.lanes later v.deskew d took) (each_has n v.lanes lanes has) in omega (arith, le, some))
