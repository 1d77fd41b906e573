-- What a front of lanes shows of the whole lanes.
use Rattle.std.proofs.Common.{ℕ, zero, suc, ◌≡◌, refl, sym, ap, ◌∙◌, subst, ◌+◌, ◌*◌, ◌<◌, ◌≤◌, Bool, true, List, [], ◌∷◌, ◌++◌, append-nil, append_assoc, length, map, take, drop, get_or, replicate, arith}
use Rattle.std.specs.Prelude.{nat_lt}
use Rattle.std.proofs.lemmas.Bool.{and_parts, ltb-true}
use Rattle.std.proofs.lemmas.List.{length-map, take-append-drop, take_all}
use Rattle.std.proofs.lemmas.List.FromFn.{length-map-range_with_len}
use Rattle.lk_base.specs.Checksum.{bits_of_bytes}
use Rattle.lk_base.specs.declared.word.Aligned.{Aligned}
use Rattle.lk_base.specs.Link.{Settings, IsLink}
use Rattle.lk_base.proofs.Lists.{head_same, tail_same}
use Rattle.lock_model.specs.declared.types.LaneStep.{LaneStep}
use Rattle.lock_model.specs.declared.types.LaneStep.TheVariants as steps
use Rattle.lock_model.specs.Steps.{AreSteps}
use Rattle.lock_model.specs.Tracks.{Track, shown_tracks}
use Rattle.lock_model.proofs.StepsHold.{earlier_steps_stay, steps_exist, steps_show_tracks}
use Rattle.epoch_model.specs.GroupLaw.{HasAttempts, tracks_received}
use Rattle.epoch_model.specs.SoFar.{LaneSoFar}
use Rattle.event_model.specs.Fed.{AllGo, Fed, Goes, first_bits, has_ended, longest, whole}
use Rattle.event_model.proofs.Clocks.{bits-append, length-bits}
use Rattle.deskew.specs.Ticks.{AreLaneSteps, steps_in, tick_at, ticks_of}
use Rattle.deskew.proofs.Stepped.{shown_same}
use Rattle.link_laws.specs.Received.{bits_of_lanes}
use Rattle.rx_front.specs.Lanes.{AllStand}
use Rattle.rx_front.specs.Locks.{locks_in}
use Rattle.rx_front.specs.Standing.{Progress, Stands, locks_at}
use Rattle.rx_front.specs.States.{Lane, State}
use Rattle.rx_front.proofs.Clocked.{AtClock, at_clock, column_is, shows_lane}
use Rattle.rx_front.proofs.Rounds.{column_length}
use Rattle.link_replay.proofs.EndOfLanes.{AllDeclared}
use Rattle.link_replay.proofs.Growth.{AllBegin, Begins}
use Rattle.link_replay.proofs.Locks.{few_locks, track_locks}

-- ---- one lane

module _ (clock : ℕ) (lane : Fed) (bytes : List ℕ) (go : Goes lane (whole bytes)) where
  -- its bits so far are the first of its bits
  first_of : (rest : List Bool) × (first_bits clock lane ++ rest ≡ bits_of_bytes bytes)
  first_of =
      let front = bits_of_bytes lane.bytes in
      let more = bits_of_bytes go.rest in (
        drop clock front ++ more,
        sym (append_assoc (take clock front) (drop clock front) more)
            ∙ ap (λ bs. bs ++ more) (take-append-drop clock front)
            ∙ sym (bits-append lane.bytes go.rest)
            ∙ ap bits_of_bytes (sym go.bytes),
      )

  -- where it has ended they are all
  all_of : has_ended clock lane ≡ true → first_bits clock lane ≡ bits_of_bytes bytes
  all_of e =
      let parts = and_parts lane.finished (nat_lt (length (bits_of_bytes lane.bytes)) clock) e in
      let over = ltb-true (length (bits_of_bytes lane.bytes)) clock parts.1 in
      let none = (go.over parts.0).1 in
      let own : lane.bytes ≡ bytes = sym (append-nil lane.bytes) ∙ ap (λ (r : List ℕ). lane.bytes ++ r) (sym none) ∙ sym go.bytes in
      take_all clock (bits_of_bytes lane.bytes) (omega (arith, over)) ∙ ap bits_of_bytes own

  begins : (s : Settings) (given : List LaneStep) (x : HasAttempts s.metaframe) → IsLink s → x.bits ≡ bits_of_bytes bytes → AtClock s clock lane given → Begins s given x
  begins s given x link e c = by c.behind refl
    where
      by : (n : ℕ) → c.behind ≡ n → Begins s given x
      by zero z =
          let first = first_bits clock lane in
          let rest = first_of in
          let all = steps_exist s x.bits in
          let own : x.bits ≡ first ++ rest.0 = e ∙ sym rest.1 in
          let stay : take (length first) all.0 ≡ c.own = earlier_steps_stay s first rest.0 c.own all.0 c.are (subst (λ (bs : List Bool). AreSteps s bs all.0) own all.1) in
          let same : given ≡ take (length first) all.0 = c.shown ∙ ap (λ n. c.own ++ replicate n steps.Ended) z ∙ append-nil c.own ∙ sym stay in
          let total : given ++ drop (length first) all.0 ≡ all.0 = ap (λ xs. xs ++ drop (length first) all.0) same ∙ take-append-drop (length first) all.0 in
          record {
            more = drop (length first) all.0;
            are = subst (λ (xs : List LaneStep). AreLaneSteps s xs) (sym total) (record { bits = x.bits; own = all.0; are = all.1; behind = 0; shown = sym (append-nil all.0) });
            shown = ap shown_tracks total ∙ steps_show_tracks s x.bits all.0 x.attempts link.metaframe.0 all.1 x.are;
          }
      by (suc n) z =
          let ended = c.over.0 (omega (arith, z)) in
          let own : first_bits clock lane ≡ x.bits = all_of ended ∙ sym e in
          let are : AreSteps s x.bits c.own = subst (λ (bs : List Bool). AreSteps s bs c.own) own c.are in
          let shown : given ++ [] ≡ c.own ++ replicate c.behind steps.Ended = append-nil given ∙ c.shown in
          record {
            more = [];
            are = record { bits = x.bits; own = c.own; are = are; behind = c.behind; shown = shown };
            shown = ap shown_tracks shown ∙ shown_same c.own c.behind ∙ steps_show_tracks s x.bits c.own x.attempts link.metaframe.0 are x.are;
          }

-- ---- all lanes

-- these are the steps of the lanes from number i on
abbrev Gives : ℕ → (ℕ → List LaneStep) → ℕ → List (List LaneStep) → Type 0
Gives clock given i columns = (j : ℕ) → j < length columns → given (i + j) ≡ take clock (get_or columns j [])

gives_first : (clock : ℕ) (given : ℕ → List LaneStep) (i : ℕ) (column : List LaneStep) (columns : List (List LaneStep)) → Gives clock given i (column ∷ columns) → given i ≡ take clock column
gives_first clock given i column columns g = (let e : i ≡ i + 0 = omega arith in ap given e ∙ g 0 (omega arith))

gives_rest : (clock : ℕ) (given : ℕ → List LaneStep) (i : ℕ) (column : List LaneStep) (columns : List (List LaneStep)) → Gives clock given i (column ∷ columns) → Gives clock given (i + 1) columns
gives_rest clock given i column columns g j lt = (let e : i + 1 + j ≡ i + suc j = omega arith in ap given e ∙ g (suc j) (omega (arith, lt)))

module _ (s : Settings) (link : IsLink s) (rounds clock : ℕ) (le : clock ≤ 8 * rounds) (given : ℕ → List LaneStep) where
  all_begin : (i : ℕ) (vs : List Lane) (fed : List Fed) (lanes : List (List ℕ)) (columns : List (List LaneStep)) (all : List (HasAttempts s.metaframe)) → AllStand vs s rounds fed columns →
      AllGo fed (map whole lanes) → bits_of_lanes all ≡ map bits_of_bytes lanes → Gives clock given i columns → AllBegin s given i all
  all_begin i [] [] lanes [] [] st go e g = tt
  all_begin i [] [] [] [] (x ∷ all) st go e g = absurd (let l = ap length e in omega (arith, l))
  all_begin i [] [] (bytes ∷ lanes) [] (x ∷ all) st go e g = absurd go
  all_begin i [] [] lanes (column ∷ columns) all st go e g = absurd st
  all_begin i [] (lane ∷ fed) lanes columns all st go e g = absurd st
  all_begin i (v ∷ vs) [] lanes columns all st go e g = absurd st
  all_begin i (v ∷ vs) (lane ∷ fed) lanes [] all st go e g = absurd st
  all_begin i (v ∷ vs) (lane ∷ fed) [] (column ∷ columns) all st go e g = absurd go
  all_begin i (v ∷ vs) (lane ∷ fed) (bytes ∷ lanes) (column ∷ columns) [] st go e g = absurd (let l = ap length e in omega (arith, l))
  all_begin i (v ∷ vs) (lane ∷ fed) (bytes ∷ lanes) (column ∷ columns) (x ∷ all) st go e g = (
    subst (λ (xs : List LaneStep). Begins s xs x) (sym (gives_first clock given i column columns g))
        (begins clock lane bytes go.0 s (take clock column) x link (head_same x.bits (bits_of_bytes bytes) (bits_of_lanes all) (map bits_of_bytes lanes) e)
        (at_clock s rounds clock lane column le st.0.in_time st.0.completed)),
    all_begin (i + 1) vs fed lanes columns all st.1 go.1 (tail_same x.bits (bits_of_bytes bytes) (bits_of_lanes all) (map bits_of_bytes lanes) e) (gives_rest clock given i column columns g),
  )

  -- after their last bits the locks are those of the whole lanes
  all_declared : (i : ℕ) (vs : List Lane) (lanes : List (List ℕ)) (columns : List (List LaneStep)) (all : List (HasAttempts s.metaframe)) → AllStand vs s rounds (map whole lanes) columns →
      bits_of_lanes all ≡ map bits_of_bytes lanes → 8 * longest (map whole lanes) < clock → Gives clock given i columns → AllDeclared s (λ k. locks_in (given k)) i all
  all_declared i [] [] [] [] st e o g = tt
  all_declared i [] [] [] (x ∷ all) st e o g = absurd (let l = ap length e in omega (arith, l))
  all_declared i [] [] (column ∷ columns) all st e o g = absurd st
  all_declared i [] (bytes ∷ lanes) columns all st e o g = absurd st
  all_declared i (v ∷ vs) [] columns all st e o g = absurd st
  all_declared i (v ∷ vs) (bytes ∷ lanes) [] all st e o g = absurd st
  all_declared i (v ∷ vs) (bytes ∷ lanes) (column ∷ columns) [] st e o g = absurd (let l = ap length e in omega (arith, l))
  all_declared i (v ∷ vs) (bytes ∷ lanes) (column ∷ columns) (x ∷ all) st e o g =
      let c = at_clock s rounds clock (whole bytes) column le st.0.in_time st.0.completed in
      let b = length-bits bytes in
      let own : first_bits clock (whole bytes) ≡ bits_of_bytes bytes = take_all clock (bits_of_bytes bytes) (omega (arith, b, o)) in
      let shown = shows_lane s clock (whole bytes) (take clock column) x link (head_same x.bits (bits_of_bytes bytes) (bits_of_lanes all) (map bits_of_bytes lanes) e ∙ sym own) c in
      let tracks : shown_tracks (given i) ≡ tracks_received s x = ap shown_tracks (gives_first clock given i column columns g) ∙ ap (λ (l : LaneSoFar). l.tracks) shown in (
        sym (track_locks (given i)) ∙ ap (map (λ (t : Track). t.at)) tracks,
        all_declared (i + 1) vs lanes columns all st.1 (tail_same x.bits (bits_of_bytes bytes) (bits_of_lanes all) (map bits_of_bytes lanes) e) (omega (arith, o)) (gives_rest clock given i column columns g),
      )

-- a column is as long as the clock
long_at : (vs : List Lane) (s : Settings) (rounds clock : ℕ) (fed : List Fed) (columns : List (List LaneStep)) (j : ℕ) → clock ≤ 8 * rounds → AllStand vs s rounds fed columns → j < length columns → clock ≤ length (get_or columns j [])
long_at [] s rounds clock [] [] j le st lt = absurd (omega (arith, lt))
long_at [] s rounds clock [] (column ∷ columns) j le st lt = absurd st
long_at [] s rounds clock (lane ∷ fed) columns j le st lt = absurd st
long_at (v ∷ vs) s rounds clock [] columns j le st lt = absurd st
long_at (v ∷ vs) s rounds clock (lane ∷ fed) [] j le st lt = absurd st
long_at (v ∷ vs) s rounds clock (lane ∷ fed) (column ∷ columns) zero le st lt = (let l = column_length s rounds lane column st.0.completed in omega (arith, l, le))
long_at (v ∷ vs) s rounds clock (lane ∷ fed) (column ∷ columns) (suc j) le st lt = long_at vs s rounds clock fed columns j le st.1 (omega (arith, lt))

-- ---- the front

module _ (f : State) (s : Settings) (fed : List Fed) (items : List Aligned) (t : Progress) (st : Stands f s fed items t) where
  abbrev pub Ticks : List (List LaneStep)
  Ticks = ticks_of t.columns t.clock

  pub in_rounds : t.clock ≤ 8 * t.rounds
  in_rounds = (let e = st.time in omega (arith, e))

  pub column_given : (k : ℕ) → k < length t.columns → steps_in k Ticks ≡ take t.clock (get_or t.columns k [])
  column_given k lt = column_is t.columns k t.clock lt (long_at f.lanes s t.rounds t.clock fed t.columns k in_rounds st.lanes lt)

  pub steps_given : Gives t.clock (λ k. steps_in k Ticks) 0 t.columns
  steps_given j lt = (let e : 0 + j ≡ j = omega arith in ap (λ k. steps_in k Ticks) e ∙ column_given j lt)

  ticks_long : length Ticks ≡ t.clock
  ticks_long = length-map-range_with_len (tick_at t.columns) 0 t.clock

  -- the locks of a lane are few
  pub locks_few : (k : ℕ) → k < s.lanes → 67 * length (locks_at k t) ≤ t.clock
  locks_few k lt =
      let few = few_locks s (steps_in k Ticks) st.link (st.deskew.keeps.are k lt) in
      let m = length-map Ticks (λ (tick : List LaneStep). get_or tick k steps.Ended) in
      let long = ticks_long in
      omega (arith, few, m, long)

module _ (f : State) (s : Settings) (lanes : List (List ℕ)) (items : List Aligned) (t : Progress) (all : List (HasAttempts s.metaframe)) (bits : bits_of_lanes all ≡ map bits_of_bytes lanes) where
  -- the steps so far are the first of the whole lanes
  pub lanes_begin : (fed : List Fed) → AllGo fed (map whole lanes) → Stands f s fed items t → AllBegin s (λ k. steps_in k (ticks_of t.columns t.clock)) 0 all
  lanes_begin fed go st =
      all_begin s st.link t.rounds t.clock (in_rounds f s fed items t st) (λ k. steps_in k (ticks_of t.columns t.clock)) 0 f.lanes fed lanes t.columns all st.lanes go bits (steps_given f s fed items t st)

  -- after the last bits they declared all locks
  pub lanes_declared : Stands f s (map whole lanes) items t → 8 * longest (map whole lanes) < t.clock → AllDeclared s (λ k. locks_at k t) 0 all
  lanes_declared st over =
      all_declared s st.link t.rounds t.clock (in_rounds f s (map whole lanes) items t st) (λ k. steps_in k (ticks_of t.columns t.clock)) 0 f.lanes lanes t.columns all st.lanes bits over
      (steps_given f s (map whole lanes) items t st)
