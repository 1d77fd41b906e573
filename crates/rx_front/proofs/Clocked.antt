-- The steps of all lanes, as the deskew takes them, show the lanes as they are at the clock.
use Rattle.std.proofs.Common.{ℕ, zero, suc, ◌≡◌, refl, sym, ap, ◌∙◌, subst, ◌+◌, ◌-◌, ◌*◌, ◌<◌, ◌≤◌, Bool, true, false, List, [], ◌∷◌, ◌++◌, length, map, take, drop, get_or, replicate, append-nil, arith, inl, inr, rules}
use Rattle.std.specs.Prelude.{◌&&◌, nat_lt, slice_get, Some}
use Rattle.std.specs.List.{range_with_len, list_any}
use Rattle.std.proofs.lemmas.Bool.{cases_Bool, cases_lt, lt-ltb, le-ltb}
use Rattle.std.proofs.lemmas.List.FromFn.{map-range_with_len_more}
use Rattle.std.proofs.lemmas.List.{map-append, length-take, take-append-drop, take-append-le, take_all, take-take, get_or-map, take_more}
use Rattle.lk_base.specs.Checksum.{bits_of_bytes}
use Rattle.lk_base.specs.Link.{Settings, IsLink}
use Rattle.lk_base.proofs.Lists.{head_same, tail_same}
use Rattle.deskew.proofs.Stepped.{shown_same}
use Rattle.lock_model.specs.declared.types.LaneStep.{LaneStep}
use Rattle.lock_model.specs.declared.types.LaneStep.TheVariants as steps
use Rattle.lock_model.specs.Steps.{AreSteps}
use Rattle.lock_model.specs.Tracks.{Track, shown_tracks}
use Rattle.lock_model.proofs.StepsHold.{first_steps, steps_show_tracks}
use Rattle.lock_model.proofs.StepsHold.{steps_fit}
use Rattle.epoch_model.specs.GroupLaw.{HasAttempts, tracks_received}
use Rattle.epoch_model.specs.SoFar.{LaneSoFar}
use Rattle.event_model.specs.Fed.{Fed, first_bits, has_ended}
use Rattle.event_model.specs.Given.{bits_in, lanes_at}
use Rattle.event_model.proofs.Clocks.{length-bits}
use Rattle.deskew.specs.Ticks.{AreTicks, is_ended, lane_shown, lanes_shown, steps_in, tick_at, ticks_of}
use Rattle.rx_front.specs.Lanes.{AllStand, IsColumn}
use Rattle.rx_front.specs.States.{Lane}
use Rattle.rx_front.proofs.AtPlaces.{count_columns, stands_at}
use Rattle.rx_front.proofs.Rounds.{column_length}

-- the steps of the first bits of a lane are the first of its steps
pub steps_taken : (s : Settings) (bits : List Bool) (own : List LaneStep) (n : ℕ) → n ≤ length bits → AreSteps s bits own → AreSteps s (take n bits) (take n own)
steps_taken s bits own n le are =
    let l : length (take n bits) ≡ n = (let a = length-take n bits in omega (arith, a, le)) in
    let whole : AreSteps s (take n bits ++ drop n bits) own = subst (λ (bs : List Bool). AreSteps s bs own) (sym (take-append-drop n bits)) are in
    subst (λ (m : ℕ). AreSteps s (take n bits) (take m own)) l (first_steps s (take n bits) (drop n bits) own whole)

-- no step of a bit is an end
end_at : (own : List LaneStep) → list_any is_ended own ≡ true → (n : ℕ) × (slice_get own n ≡ Some steps.Ended)
end_at [] e = absurd (let f : false ≡ true = e in cc)
end_at (steps.Nothing ∷ own) e = (let found = end_at own e in (suc found.0, found.1))
end_at (steps.Word w role at ∷ own) e = (let found = end_at own e in (suc found.0, found.1))
end_at (steps.Locked at ∷ own) e = (let found = end_at own e in (suc found.0, found.1))
end_at (steps.Lost why at ∷ own) e = (let found = end_at own e in (suc found.0, found.1))
end_at (steps.Ended ∷ own) e = (0, refl)

none_steps_ended : (s : Settings) (bits : List Bool) (own : List LaneStep) → 32 ≤ s.metaframe → AreSteps s bits own → list_any is_ended own ≡ false
none_steps_ended s bits own long are = elim (cases_Bool (list_any is_ended own)) [
  | inl h ↦ (let found = end_at own h in absurd (steps_fit s bits own found.0 steps.Ended long are found.1))
  | inr h ↦ h
]

-- a lane at the clock: the steps of its bits up to there, and then its end
pub record AtClock (s : Settings) (clock : ℕ) (fed : Fed) (given : List LaneStep) : Type 0 where
  pub own : List LaneStep
  pub are : AreSteps s (first_bits clock fed) own
  pub behind : ℕ
  pub shown : given ≡ own ++ replicate behind steps.Ended
  -- it has ended exactly where the clock ran past its bits
  pub over : (0 < behind → has_ended clock fed ≡ true) × (behind ≡ 0 → has_ended clock fed ≡ false)

not_past : (a : Bool) (n m : ℕ) → m ≤ n → (a && nat_lt n m) ≡ false
not_past true n m le = le-ltb n m le
not_past false n m le = refl

pub at_clock : (s : Settings) (rounds clock : ℕ) (fed : Fed) (column : List LaneStep) → clock ≤ 8 * rounds → (fed.finished ≡ false → rounds ≤ length fed.bytes) → IsColumn s rounds fed column →
    AtClock s clock fed (take clock column)
at_clock s rounds clock fed column le in_time is = elim (cases_lt (length (bits_of_bytes fed.bytes)) clock) [
  | inl past ↦ (
      let b = length-bits fed.bytes in
      let l = is.are.long in
      let t = length-take (8 * rounds) (bits_of_bytes fed.bytes) in
      let own_all : length is.own ≡ length (bits_of_bytes fed.bytes) = omega (arith, l, t, le, past) in
      let same : first_bits (8 * rounds) fed ≡ first_bits clock fed =
      take_all (8 * rounds) (bits_of_bytes fed.bytes) (omega (arith, le, past)) ∙ sym (take_all clock (bits_of_bytes fed.bytes) (omega (arith, past))) in
      let cut : take clock (is.own ++ replicate (8 * rounds - length is.own) steps.Ended) ≡ is.own ++ replicate (clock - length is.own) steps.Ended =
      take_past clock is.own (8 * rounds - length is.own) (omega (arith, own_all, past)) (omega (arith, le, own_all, past)) in
      record {
        own = is.own;
        are = subst (λ (bs : List Bool). AreSteps s bs is.own) same is.are;
        behind = clock - length is.own;
        shown = ap (take clock) is.shown ∙ cut;
        over = (
          (λ some. (
              let ended : fed.finished ≡ true = elim (cases_Bool fed.finished) [
                | inl over ↦ over
                | inr not_over ↦ absurd (let r = in_time not_over in omega (arith, r, b, le, past))
              ] in
              rw (ended, lt-ltb (length (bits_of_bytes fed.bytes)) clock past) refl)),
          (λ none. absurd (omega (arith, none, own_all, past))),
        );
      })
  | inr there ↦ (
      let l = is.are.long in
      let t = length-take (8 * rounds) (bits_of_bytes fed.bytes) in
      let long : clock ≤ length is.own = omega (arith, l, t, le, there) in
      let cut : take clock (is.own ++ replicate (8 * rounds - length is.own) steps.Ended) ≡ take clock is.own = take-append-le clock is.own (replicate (8 * rounds - length is.own) steps.Ended) long in
      record {
        own = take clock is.own;
        are = subst (λ (bs : List Bool). AreSteps s bs (take clock is.own)) (take-take clock (8 * rounds) (bits_of_bytes fed.bytes) le)
            (steps_taken s (first_bits (8 * rounds) fed) is.own clock (omega (arith, t, le, there)) is.are);
        behind = 0;
        shown = ap (take clock) is.shown ∙ cut ∙ sym (append-nil (take clock is.own));
        over = ((λ some. absurd (omega (arith, some))), (λ none. not_past fed.finished (length (bits_of_bytes fed.bytes)) clock there));
      })
]
  where
    take_past : (n : ℕ) (xs : List LaneStep) (m : ℕ) → length xs ≤ n → n - length xs ≤ m → take n (xs ++ replicate m steps.Ended) ≡ xs ++ replicate (n - length xs) steps.Ended
    take_past n [] m le k = (let e : n - 0 ≡ n = omega arith in take_ended n m (omega (arith, k)) ∙ ap (λ i. replicate i steps.Ended) (sym e))
      where
        take_ended : (n m : ℕ) → n ≤ m → take n (replicate m steps.Ended) ≡ replicate n steps.Ended
        take_ended zero m le = refl
        take_ended (suc n) zero le = absurd (omega (arith, le))
        take_ended (suc n) (suc m) le = ap (λ (r : List LaneStep). steps.Ended ∷ r) (take_ended n m (omega (arith, le)))
    take_past zero (x ∷ xs) m le k = absurd (omega (arith, le))
    take_past (suc n) (x ∷ xs) m le k = (let e : suc n - suc (length xs) ≡ n - length xs = omega arith in
        ap (λ (r : List LaneStep). x ∷ r) (take_past n xs m (omega (arith, le)) (omega (arith, k))) ∙ ap (λ i. x ∷ (xs ++ replicate i steps.Ended)) (sym e))

-- what such steps show is the lane at the clock
ended_behind : (own : List LaneStep) (n : ℕ) → list_any is_ended own ≡ false → list_any is_ended (own ++ replicate n steps.Ended) ≡ nat_lt 0 n
ended_behind [] zero e = refl
ended_behind [] (suc n) e = sym (lt-ltb 0 (suc n) (omega arith))
ended_behind (x ∷ own) n e = elim (cases_Bool (is_ended x)) [
  | inl h ↦ absurd (let f : true ≡ false = rw h at e in cc)
  | inr h ↦ rw h (ended_behind own n (rw h at e))
]

pub shows_lane : (s : Settings) (clock : ℕ) (fed : Fed) (given : List LaneStep) (x : HasAttempts s.metaframe) → IsLink s → x.bits ≡ first_bits clock fed → AtClock s clock fed given →
    lane_shown given ≡ record { tracks = tracks_received s x; over = has_ended clock fed }
shows_lane s clock fed given x link e at =
    let are : AreSteps s x.bits at.own = subst (λ (bs : List Bool). AreSteps s bs at.own) (sym e) at.are in
    let tracks : shown_tracks given ≡ tracks_received s x = ap shown_tracks at.shown ∙ shown_same at.own at.behind ∙ steps_show_tracks s x.bits at.own x.attempts link.metaframe.0 are x.are in
    let over : list_any is_ended given ≡ has_ended clock fed = ap (list_any is_ended) at.shown ∙ ended_behind at.own at.behind (none_steps_ended s (first_bits clock fed) at.own link.metaframe.0 at.are) ∙ which at.behind at.over in
    joined (shown_tracks given) (tracks_received s x) (list_any is_ended given) (has_ended clock fed) tracks over
  where
    which : (n : ℕ) → (0 < n → has_ended clock fed ≡ true) × (n ≡ 0 → has_ended clock fed ≡ false) → nat_lt 0 n ≡ has_ended clock fed
    which zero h = sym (h.1 refl)
    which (suc n) h = (let lt : 0 < suc n = omega arith in lt-ltb 0 (suc n) lt ∙ sym (h.0 lt))

    joined : (t u : List Track) (a b : Bool) → t ≡ u → a ≡ b → ◌≡◌ {A = LaneSoFar} (record { tracks = t; over = a }) (record { tracks = u; over = b })
    joined t u a b e f = cc

-- ---- all lanes

gathered : (columns : List (List LaneStep)) (i : ℕ) (column : List LaneStep) (n : ℕ) → ((k : ℕ) → get_or (tick_at columns k) i steps.Ended ≡ get_or column k steps.Ended) → n ≤ length column →
    map (λ (tick : List LaneStep). get_or tick i steps.Ended) (map (tick_at columns) (range_with_len 0 n)) ≡ take n column
gathered columns i column zero same le = refl
gathered columns i column (suc n) same le =
    let e : suc n ≡ n + 1 = omega arith in
    ap (λ m. map (λ (tick : List LaneStep). get_or tick i steps.Ended) (map (tick_at columns) (range_with_len 0 m))) e
    ∙ ap (map (λ (tick : List LaneStep). get_or tick i steps.Ended)) (map-range_with_len_more (tick_at columns) 0 n n (omega arith))
    ∙ map-append (λ (tick : List LaneStep). get_or tick i steps.Ended) (map (tick_at columns) (range_with_len 0 n)) (tick_at columns n ∷ [])
    ∙ ap (λ (r : List LaneStep). r ++ get_or (tick_at columns n) i steps.Ended ∷ []) (gathered columns i column n same (omega (arith, le)))
    ∙ ap (λ (x : LaneStep). take n column ++ x ∷ []) (same n)
    ∙ sym (ap (λ m. take m column) e ∙ take_more column n steps.Ended (omega (arith, le)))

pub column_is : (columns : List (List LaneStep)) (i clock : ℕ) → i < length columns → clock ≤ length (get_or columns i []) → steps_in i (ticks_of columns clock) ≡ take clock (get_or columns i [])
column_is columns i clock lt le = gathered columns i (get_or columns i []) clock (λ k. get_or-map (λ (column : List LaneStep). get_or column k steps.Ended) columns i [] steps.Ended lt) le

-- each lane
pub record EachAt (s : Settings) (rounds clock : ℕ) (fed : Fed) (column : List LaneStep) : Type 0 where
  pub at : AtClock s clock fed (take clock column)
  pub long : clock ≤ length column

each_at : (lanes : List Lane) (s : Settings) (rounds clock : ℕ) (fed : List Fed) (columns : List (List LaneStep)) (i : ℕ) (d : Fed) → clock ≤ 8 * rounds → AllStand lanes s rounds fed columns → i < length fed →
    EachAt s rounds clock (get_or fed i d) (get_or columns i [])
each_at lanes s rounds clock fed columns i d le st lt = go lanes (let k = (count_columns lanes s rounds fed columns st).1 in omega (arith, k, lt)) st
  where
    go : (lanes : List Lane) → i < length lanes → AllStand lanes s rounds fed columns → EachAt s rounds clock (get_or fed i d) (get_or columns i [])
    go [] there st = absurd (omega (arith, there))
    go (v ∷ lanes) there st =
        let one = stands_at (v ∷ lanes) s rounds fed columns i v d there st in
        let l = column_length s rounds (get_or fed i d) (get_or columns i []) one.completed in
        record { at = at_clock s rounds clock (get_or fed i d) (get_or columns i []) le one.in_time one.completed; long = omega (arith, l, le) }

pub lane_count : (lanes : List Lane) (s : Settings) (rounds : ℕ) (fed : List Fed) (columns : List (List LaneStep)) → AllStand lanes s rounds fed columns → length lanes ≡ length fed
lane_count lanes s rounds fed columns st = (count_columns lanes s rounds fed columns st).1

-- the deskew's ticks are those of lanes
pub are_ticks : (lanes : List Lane) (s : Settings) (rounds clock : ℕ) (fed : List Fed) (columns : List (List LaneStep)) → length fed ≡ s.lanes → clock ≤ 8 * rounds → AllStand lanes s rounds fed columns →
    AreTicks s (ticks_of columns clock)
are_ticks lanes s rounds clock fed columns count le st = λ i lt. (
    let k = count_columns lanes s rounds fed columns st in
    let each = each_at lanes s rounds clock fed columns i (record { bytes = []; finished = false }) le st (omega (arith, lt, count)) in
    record {
      bits = first_bits clock (get_or fed i (record { bytes = []; finished = false }));
      own = each.at.own;
      are = each.at.are;
      behind = each.at.behind;
      shown = column_is columns i clock (let m = k.0 in omega (arith, lt, count, m)) each.long ∙ each.at.shown;
    })

no_bits_of : (x : List Bool) (xs : List (List Bool)) → ◌≡◌ {A = List (List Bool)} [] (x ∷ xs) → ⊥
no_bits_of x xs e = search rules

lane_is : (s : Settings) (clock : ℕ) (fed : List Fed) (received : List (HasAttempts s.metaframe)) (given : List LaneStep) (i : ℕ) (d : Fed) (e : LaneSoFar) → IsLink s → bits_in s.metaframe received ≡ map (first_bits clock) fed → i < length fed →
    AtClock s clock (get_or fed i d) given → lane_shown given ≡ get_or (lanes_at s clock fed received) i e
lane_is s clock [] received given i d e link are lt at = absurd (omega (arith, lt))
lane_is s clock (lane ∷ fed) [] given i d e link are lt at = absurd (no_bits_of (first_bits clock lane) (map (first_bits clock) fed) are)
lane_is s clock (lane ∷ fed) (x ∷ received) given zero d e link are lt at = shows_lane s clock lane given x link (head_same x.bits (first_bits clock lane) (bits_in s.metaframe received) (map (first_bits clock) fed) are) at
lane_is s clock (lane ∷ fed) (x ∷ received) given (suc i) d e link are lt at =
    lane_is s clock fed received given i d e link (tail_same x.bits (first_bits clock lane) (bits_in s.metaframe received) (map (first_bits clock) fed) are) (omega (arith, lt)) at

map_range_is : (F : ℕ → LaneSoFar) (a : ℕ) (ls : List LaneSoFar) → ((i : ℕ) (d : LaneSoFar) → i < length ls → F (a + i) ≡ get_or ls i d) → map F (range_with_len a (length ls)) ≡ ls
map_range_is F a [] h = refl
map_range_is F a (l ∷ ls) h =
    let first : F a ≡ l = (let e : a ≡ a + 0 = omega arith in ap F e ∙ h 0 l (omega arith)) in
    let rest = map_range_is F (a + 1) ls (λ i d lt. (let e : a + 1 + i ≡ a + suc i = omega arith in ap F e ∙ h (suc i) d (omega (arith, lt)))) in
    joined (F a) l (map F (range_with_len (a + 1) (length ls))) ls first rest
  where
    joined : (x y : LaneSoFar) (xs ys : List LaneSoFar) → x ≡ y → xs ≡ ys → ◌≡◌ {A = List LaneSoFar} (x ∷ xs) (y ∷ ys)
    joined x y xs ys e f = cc

count_at_clock : (s : Settings) (clock : ℕ) (fed : List Fed) (received : List (HasAttempts s.metaframe)) → bits_in s.metaframe received ≡ map (first_bits clock) fed → length (lanes_at s clock fed received) ≡ length fed
count_at_clock s clock [] received e = refl
count_at_clock s clock (lane ∷ fed) [] e = absurd (no_bits_of (first_bits clock lane) (map (first_bits clock) fed) e)
count_at_clock s clock (lane ∷ fed) (x ∷ received) e = ap suc (count_at_clock s clock fed received (tail_same x.bits (first_bits clock lane) (bits_in s.metaframe received) (map (first_bits clock) fed) e))

pub shown_at_clock : (lanes : List Lane) (s : Settings) (rounds clock : ℕ) (fed : List Fed) (columns : List (List LaneStep)) (received : List (HasAttempts s.metaframe)) → IsLink s → length fed ≡ s.lanes → clock ≤ 8 * rounds →
    AllStand lanes s rounds fed columns → bits_in s.metaframe received ≡ map (first_bits clock) fed →
    lanes_shown s.lanes (ticks_of columns clock) ≡ lanes_at s clock fed received
shown_at_clock lanes s rounds clock fed columns received link count le st e =
    let n = count_at_clock s clock fed received e in
    let k = count_columns lanes s rounds fed columns st in
    let same : s.lanes ≡ length (lanes_at s clock fed received) = omega (arith, n, count) in
    ap (λ m. map (λ i. lane_shown (steps_in i (ticks_of columns clock))) (range_with_len 0 m)) same
    ∙ map_range_is (λ i. lane_shown (steps_in i (ticks_of columns clock))) 0 (lanes_at s clock fed received) (λ i d lt. (
    let each = each_at lanes s rounds clock fed columns i (record { bytes = []; finished = false }) le st (omega (arith, lt, n)) in
    let z : 0 + i ≡ i = omega arith in
    ap (λ j. lane_shown (steps_in j (ticks_of columns clock))) z
    ∙ ap lane_shown (column_is columns i clock (let m = k.0 in omega (arith, lt, n, m)) each.long)
    ∙ lane_is s clock fed received (take clock (get_or columns i [])) i (record { bytes = []; finished = false }) d link e (omega (arith, lt, n)) each.at))
