-- The clock moves on by a bit.
use Rattle.std.proofs.Common.{ℕ, ◌≡◌, refl, sym, ap, ◌∙◌, subst, ◌+◌, ◌-◌, ◌*◌, ◌<◌, ◌≤◌, List, [], ◌∷◌, ◌++◌, length, map, get_or, arith}
use Rattle.std.specs.List.{cons_option}
use Rattle.std.proofs.lemmas.List.{length-drop, map-append, get_or-drop}
use Rattle.std.proofs.lemmas.List.Elements.{All-tail}
use Rattle.lk_base.specs.declared.word.Aligned.{Aligned}
use Rattle.lk_base.specs.Link.{Settings}
use Rattle.deskew.proofs.Columns.{one_more}
use Rattle.lock_model.specs.declared.types.LaneStep.{LaneStep}
use Rattle.lock_model.specs.declared.types.LaneStep.TheVariants as steps
use Rattle.event_model.specs.Fed.{Fed}
use Rattle.deskew.specs.Stands as deskews
use Rattle.deskew.specs.Ticks.{AreTicks, steps_in, tick_at, ticks_of}
use Rattle.rx_front.specs.States.{Lane, State}
use Rattle.rx_front.specs.Lanes.{AllStand, AreWide, step_at}
use Rattle.rx_front.specs.Locks.{lock_of, locks_in}
use Rattle.rx_front.specs.Standing.{Moves, Progress, Stands}
use Rattle.rx_front.proofs.Clocked.{are_ticks}
use Rattle.rx_front.proofs.Locks.{locks_append}
use Rattle.rx_front.proofs.Rounds.{column_length}

steps_are : (lanes : List Lane) (s : Settings) (rounds clock k width : ℕ) (fed : List Fed) (columns : List (List LaneStep)) → 0 < rounds → 8 * rounds + k ≡ clock + width → AreWide width lanes →
    AllStand lanes s rounds fed columns → map (step_at k) lanes ≡ tick_at columns clock
steps_are [] s rounds clock k width [] [] some e wide st = refl
steps_are (v ∷ lanes) s rounds clock k width (lane ∷ fed) (column ∷ columns) some e wide st =
    let last = st.0.last some in
    let long = column_length s rounds lane column st.0.completed in
    let kept = ap length last ∙ length-drop (8 * rounds - length v.steps) column in
    let w = wide 0 v (omega arith) in
    let same : 8 * rounds - length v.steps + k ≡ clock = omega (arith, e, w, kept, long) in
    let here : step_at k v ≡ get_or column clock steps.Ended =
    ap (λ (g : List LaneStep). get_or g k steps.Ended) last ∙ get_or-drop (8 * rounds - length v.steps) column k steps.Ended ∙ ap (λ m. get_or column m steps.Ended) same in
    joined (step_at k v) (get_or column clock steps.Ended) (map (step_at k) lanes) (tick_at columns clock) here (steps_are lanes s rounds clock k width fed columns some e (All-tail (λ x. length x.steps ≡ width) v lanes wide) st.1)
  where
    joined : (x y : LaneStep) (xs ys : List LaneStep) → x ≡ y → xs ≡ ys → ◌≡◌ {A = List LaneStep} (x ∷ xs) (y ∷ ys)
    joined x y xs ys e f = cc
steps_are lanes s rounds clock k width fed columns some e wide st = absurd st

-- the locks of the ticks before, and that of this one
pub locks_more : (i : ℕ) (ticks : List (List LaneStep)) (tick : List LaneStep) → locks_in (steps_in i (ticks ++ tick ∷ [])) ≡ locks_in (steps_in i ticks) ++ cons_option (lock_of (get_or tick i steps.Ended)) []
locks_more i ticks tick =
    ap locks_in (map-append (λ (x : List LaneStep). get_or x i steps.Ended) ticks (tick ∷ [])) ∙ locks_append (steps_in i ticks) (get_or tick i steps.Ended ∷ [])

pub ticked : (width : ℕ) (v w : State) (row : List LaneStep) (s : Settings) (fed : List Fed) (items : List Aligned) (t : Progress) → 1 ≤ v.left → v.left ≤ width → AreWide width v.lanes →
    w ≡ record { lanes = v.lanes; left = v.left - 1; deskew = w.deskew; waiting = v.waiting; over = v.over } → row ≡ map (step_at (width - v.left)) v.lanes →
    ((s : Settings) (ticks : List (List LaneStep)) (items : List Aligned) → AreTicks s (ticks ++ row ∷ []) → deskews.StandsAhead v.deskew s ticks items → deskews.StandsAhead w.deskew s (ticks ++ row ∷ []) items) →
    Stands v s fed items t → Moves w s fed items t (λ i. cons_option (lock_of (get_or row i steps.Ended)) [])
ticked width v w row s fed items t some most wide e g goes st =
    let time = st.time in
    let more : t.clock + 1 ≤ 8 * t.rounds = omega (arith, time, some) in
    let here : row ≡ tick_at t.columns t.clock = g ∙ steps_are v.lanes s t.rounds t.clock (width - v.left) width fed t.columns (omega (arith, time, some)) (omega (arith, time, some, most)) wide st.lanes in
    let ticks : ticks_of t.columns t.clock ++ row ∷ [] ≡ ticks_of t.columns (t.clock + 1) = ap (λ (x : List LaneStep). ticks_of t.columns t.clock ++ x ∷ []) here ∙ sym (one_more t.columns t.clock) in
    let are = subst (λ (ts : List (List LaneStep)). AreTicks s ts) (sym ticks) (are_ticks v.lanes s t.rounds (t.clock + 1) fed t.columns st.lane_count more st.lanes) in
    let to : Progress = record { rounds = t.rounds; clock = t.clock + 1; columns = t.columns } in
    record {
      to = to;
      stands = subst (λ (x : State). Stands x s fed items to) (sym e) (record {
        link = st.link;
        lane_count = st.lane_count;
        time = omega (arith, time, some);
        lanes = st.lanes;
        deskew = subst (λ (ts : List (List LaneStep)). deskews.StandsAhead w.deskew s ts (items ++ v.waiting)) ticks (goes s (ticks_of t.columns t.clock) (items ++ v.waiting) are st.deskew);
        at_round = st.at_round;
      });
      locks = λ i. ap (λ (ts : List (List LaneStep)). locks_in (steps_in i ts)) (sym ticks) ∙ locks_more i (ticks_of t.columns t.clock) row;
    }
