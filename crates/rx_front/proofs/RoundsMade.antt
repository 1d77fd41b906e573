-- Rounds of all lanes.
use Rattle.std.proofs.Common.{ℕ, ◌≡◌, refl, sym, ap, ◌∙◌, subst, ◌+◌, ◌*◌, ◌≤◌, Bool, true, false, List, [], ◌∷◌, ◌++◌, length, append-nil, arith, eqb-true, All}
use Rattle.lk_base.proofs.Lists.{map_range_same}
use Rattle.std.specs.Prelude.{cond, not, ◌||◌}
use Rattle.std.proofs.lemmas.Bool.{and_parts}
use Rattle.std.proofs.lemmas.List.{length-drop}
use Rattle.lk_base.specs.declared.word.Aligned.{Aligned}
use Rattle.lk_base.specs.Link.{Settings}
use Rattle.lock_model.specs.declared.types.LaneStep.{LaneStep}
use Rattle.event_model.specs.Fed.{Fed, all_finished, longest}
use Rattle.deskew.specs.Stands as deskews
use Rattle.rx_front.specs.States.{Lane, State}
use Rattle.rx_front.specs.Lanes.{AllStand, AreTaken, HasBytes, are_empty, are_ready, both, is_empty, is_ready}
use Rattle.rx_front.specs.Locks.{locks_in}
use Rattle.rx_front.specs.Standing.{AtRound, MovesQuietly, Progress, Stands, locks_at, weight}
use Rattle.deskew.specs.Ticks.{steps_in, tick_at, ticks_of}
use Rattle.rx_front.proofs.AtPlaces.{columns_long, count_columns}
use Rattle.rx_front.proofs.Moving.{HasSome, all_moved, each_has, fewer, first_ticks, kept, no_more, one_has, reaches, taken_moved}

-- where a round finds no byte, all lanes are finished, and none has more bytes than there were rounds
pub all_at_end : (lanes : List Lane) (s : Settings) (rounds : ℕ) (fed : List Fed) (columns : List (List LaneStep)) → are_ready lanes ≡ true → are_empty lanes ≡ true → AllStand lanes s rounds fed columns →
    (all_finished fed ≡ true) × (longest fed ≤ rounds)
all_at_end [] s rounds [] columns ready empty st = (refl, omega arith)
all_at_end (v ∷ lanes) s rounds (lane ∷ fed) (column ∷ columns) ready empty st =
    let r = and_parts (is_ready v) (are_ready lanes) ready in
    let e = and_parts (is_empty v) (are_empty lanes) empty in
    let rest = all_at_end lanes s rounds fed columns r.1 e.1 st.1 in
    let none = eqb-true (length v.ring) 0 e.0 in
    let l = ap length st.0.ring in
    let d = length-drop rounds lane.bytes in
    let more = rest.1 in (
      rw (sym st.0.finished ∙ over v.finished (is_empty v) e.0 r.0) rest.0,
      omega (arith, none, l, d, more),
    )
  where
    over : (finished empty : Bool) → empty ≡ true → (finished || not empty) ≡ true → finished ≡ true
    over true empty e h = refl
    over false true e h = absurd (let f : false ≡ true = h in cc)
    over false false e h = absurd (let f : false ≡ true = e in cc)
all_at_end lanes s rounds fed columns ready empty st = absurd st

-- ---- the relation after this many rounds

abbrev pub after_rounds : ℕ → List Lane → Bool → State → State
after_rounds n later over v = record { lanes = later; left = 8 * n; deskew = v.deskew; waiting = v.waiting; over = over }

made : (n : ℕ) (v : State) (later : List Lane) (over : Bool) (s : Settings) (fed : List Fed) (items : List Aligned) (t : Progress) → v.left ≡ 0 → AreTaken n v.lanes later →
    Stands v s fed items t → AtRound over fed (t.rounds + n) → MovesQuietly (after_rounds n later over v) s fed items t
made n v later over s fed items t left taken st at =
    let time = st.time in
    let all = both t.columns (kept later) in
    let long = columns_long v.lanes s t.rounds fed t.columns st.lanes in
    let same : ticks_of all t.clock ≡ ticks_of t.columns t.clock = map_range_same (tick_at all) (tick_at t.columns) t.clock (λ k lt. first_ticks (8 * t.rounds) k t.columns (kept later) (omega (arith, lt, time)) long) in
    record {
      to = record { rounds = t.rounds + n; clock = t.clock; columns = all };
      stands = record {
        link = st.link;
        lane_count = st.lane_count;
        time = omega (arith, time, left);
        lanes = all_moved n v.lanes later s t.rounds fed t.columns (kept later) (taken_moved n v.lanes later taken) st.lanes;
        deskew = subst (λ (ts : List (List LaneStep)). deskews.StandsAhead v.deskew s ts (items ++ v.waiting)) (sym same) st.deskew;
        at_round = at;
      };
      locks = λ i. ap (λ (ts : List (List LaneStep)). locks_in (steps_in i ts)) same ∙ sym (append-nil (locks_at i t));
    }

running : (v : State) (s : Settings) (fed : List Fed) (items : List Aligned) (t : Progress) → v.over ≡ false → Stands v s fed items t → t.rounds ≤ longest fed
running v s fed items t over st = subst (λ (b : Bool). AtRound b fed t.rounds) over st.at_round

-- it found all lanes at their end, or a byte
pub found_one : (v : State) (later : List Lane) (over : Bool) (s : Settings) (fed : List Fed) (items : List Aligned) (t : Progress) → v.over ≡ false → v.left ≡ 0 → are_ready v.lanes ≡ true → over ≡ are_empty v.lanes →
    AreTaken 1 v.lanes later → Stands v s fed items t → MovesQuietly (after_rounds 1 later over v) s fed items t
found_one v later true s fed items t run left ready empty taken st =
    let found = all_at_end v.lanes s t.rounds fed t.columns ready (sym empty) st.lanes in
    let low = found.1 in
    let high = running v s fed items t run st in
    made 1 v later true s fed items t left taken st (found.0, omega (arith, low, high))
found_one v later false s fed items t run left ready empty taken st =
    made 1 v later false s fed items t left taken st (reaches 1 v.lanes s t.rounds fed t.columns (omega arith) (one_has v.lanes (sym empty)) st.lanes)

-- there is a lane, and it has this many bytes
pub some_has : (v : State) (s : Settings) (fed : List Fed) (items : List Aligned) (t : Progress) (n : ℕ) → All (HasBytes n) v.lanes → Stands v s fed items t → HasSome n v.lanes
some_has v s fed items t n has st =
    let lanes = (count_columns v.lanes s t.rounds fed t.columns st.lanes).1 in
    let count = st.lane_count in
    let low = st.link.lanes.0 in
    each_has n v.lanes (omega (arith, lanes, count, low)) has

pub found_bytes : (n : ℕ) (v : State) (later : List Lane) (s : Settings) (fed : List Fed) (items : List Aligned) (t : Progress) → v.over ≡ false → v.left ≡ 0 → 1 ≤ n → All (HasBytes n) v.lanes →
    AreTaken n v.lanes later → Stands v s fed items t → MovesQuietly (after_rounds n later v.over v) s fed items t
found_bytes n v later s fed items t run left some has taken st =
    let far = reaches n v.lanes s t.rounds fed t.columns some (some_has v s fed items t n has st) st.lanes in
    made n v later v.over s fed items t left taken st (subst (λ (b : Bool). AtRound b fed (t.rounds + n)) (sym run) far)

-- ---- fewer bytes are left

pub less_by_one : (v : State) (later : List Lane) (over : Bool) → v.over ≡ false → over ≡ are_empty v.lanes → AreTaken 1 v.lanes later → weight (after_rounds 1 later over v) ≤ weight v
less_by_one v later true run empty t =
    (let r : ◌≡◌ {A = ℕ} (cond v.over 0 8) 8 = ap (λ (b : Bool). cond b 0 8) run in let le = no_more 1 v.lanes later (kept later) (taken_moved 1 v.lanes later t) in omega (arith, r, le))
less_by_one v later false run empty t = (
    let r : ◌≡◌ {A = ℕ} (cond v.over 0 8) 8 = ap (λ (b : Bool). cond b 0 8) run in
    let le = fewer 1 v.lanes later (kept later) (taken_moved 1 v.lanes later t) (one_has v.lanes (sym empty)) in
    omega (arith, r, le))

pub less_by_rounds : (n : ℕ) (v : State) (later : List Lane) → 1 ≤ length v.lanes → All (HasBytes n) v.lanes → AreTaken n v.lanes later → weight (after_rounds n later v.over v) ≤ weight v
less_by_rounds n v later some has t = (let le = fewer n v.lanes later (kept later) (taken_moved n v.lanes later t) (each_has n v.lanes some has) in omega (arith, le))
