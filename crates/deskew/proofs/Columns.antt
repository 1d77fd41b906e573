-- The steps of many ticks, taken lane by lane.
use Rattle.std.proofs.Common.{ℕ, zero, suc, ◌≡◌, refl, sym, ap, ◌∙◌, subst, ◌+◌, ◌*◌, ◌<◌, ◌≤◌, true, false, List, [], ◌∷◌, ◌++◌, length, map, take, get_or, set, arith}
use Rattle.std.specs.List.{list_all, range_with_len}
use Rattle.std.proofs.lemmas.List.{get_or-set_same, length-map, set-set, take_all, take_more, length_push}
use Rattle.std.proofs.lemmas.List.FromFn.{length-map-range_with_len, map-range_with_len_more}
use Rattle.lk_base.specs.declared.word.Aligned.{Aligned}
use Rattle.lk_base.specs.Link.{Settings}
use Rattle.lock_model.specs.declared.types.LaneStep.{LaneStep}
use Rattle.lock_model.specs.declared.types.LaneStep.TheVariants as steps
use Rattle.lock_model.specs.Shows.{shown_in}
use Rattle.epoch_model.specs.SoFar.{LaneSoFar}
use Rattle.deskew.specs.States.{LaneState, State}
use Rattle.deskew.specs.Lanes.{fresh_lane, lane_after}
use Rattle.deskew.specs.Steps.{lane_after_all, lanes_after, steps_taken, ticked, with_settled}
use Rattle.deskew.specs.Ticks.{AreTicks, lane_shown, lanes_shown, steps_in, tick_at, ticks_of}
use Rattle.deskew.specs.Stands.{Stands, StandsWith, kept_lanes, most_ahead, ring_of}
use Rattle.deskew.specs.Ahead.{AreLong, can_run_ahead, keeps_lock, ticked_all}
use Rattle.deskew.specs.Columns.{BatchOfColumns, ColumnsAreTicks, columns_taken}
use Rattle.deskew.proofs.Running.{batch_keeps_locks, batch_runs_ahead, pushed}

-- ---- one lane

-- the steps that show nothing change nothing
shown_taken : (l : LaneState) (xs : List LaneStep) → lane_after_all l (shown_in xs) ≡ lane_after_all l xs
shown_taken l [] = refl
shown_taken l (steps.Nothing ∷ xs) = shown_taken l xs
shown_taken l (steps.Word w role at ∷ xs) = shown_taken (lane_after l (steps.Word w role at)) xs
shown_taken l (steps.Locked at ∷ xs) = shown_taken (lane_after l (steps.Locked at)) xs
shown_taken l (steps.Lost why at ∷ xs) = shown_taken (lane_after l (steps.Lost why at)) xs
shown_taken l (steps.Ended ∷ xs) = shown_taken (lane_after l steps.Ended) xs

after_push : (l : LaneState) (xs : List LaneStep) (x : LaneStep) → lane_after_all l (xs ++ x ∷ []) ≡ lane_after (lane_after_all l xs) x
after_push l [] x = refl
after_push l (y ∷ xs) x = after_push (lane_after l y) xs x

after_both : (l : LaneState) (xs ys : List LaneStep) → lane_after_all (lane_after_all l xs) ys ≡ lane_after_all l (xs ++ ys)
after_both l [] ys = refl
after_both l (x ∷ xs) ys = after_both (lane_after l x) xs ys

-- ---- all lanes

-- each lane after the steps of its column
abbrev lanes_all : List LaneState → List (List LaneStep) → List LaneState
lanes_all [] columns = []
lanes_all (l ∷ ls) [] = l ∷ ls
lanes_all (l ∷ ls) (c ∷ cs) = lane_after_all l c ∷ lanes_all ls cs

abbrev held : State → List LaneState → State
held d lanes = record { settings = d.settings; lanes = lanes; phase = d.phase; settled = false }

-- steps of one lane, and then others
pub taken_both : (i : ℕ) (xs ys : List LaneStep) (d : State) → i < length d.lanes → steps_taken i ys (steps_taken i xs d) ≡ steps_taken i (xs ++ ys) d
taken_both i xs ys d lt =
    let l = get_or d.lanes i (fresh_lane 0) in
    let x = lane_after_all l xs in
    ap (λ (y : LaneState). held d (set (set d.lanes i x) i (lane_after_all y ys))) (get_or-set_same d.lanes i x (fresh_lane 0) lt)
    ∙ ap (held d) (set-set d.lanes i x (lane_after_all x ys)) ∙ ap (λ (y : LaneState). held d (set d.lanes i y)) (after_both l xs ys)

no_columns : (ls : List LaneState) → lanes_all ls [] ≡ ls
no_columns [] = refl
no_columns (l ∷ ls) = refl

at_seam : (p : List LaneState) (l : LaneState) (ls : List LaneState) (f : LaneState → LaneState) →
    set (p ++ l ∷ ls) (length p) (f (get_or (p ++ l ∷ ls) (length p) (fresh_lane 0))) ≡ p ++ f l ∷ ls
at_seam [] l ls f = refl
at_seam (y ∷ p) l ls f = ap (λ zs. y ∷ zs) (at_seam p l ls f)

one_taken : (k : ℕ) (p : List LaneState) (l : LaneState) (ls : List LaneState) (column : List LaneStep) (d : State) → k ≡ length p → d.lanes ≡ p ++ l ∷ ls →
    steps_taken k (shown_in column) d ≡ held d (p ++ lane_after_all l column ∷ ls)
one_taken k p l ls column d e is =
    ap (held d)
    (ap (λ (zs : List LaneState). set zs k (lane_after_all (get_or zs k (fresh_lane 0)) (shown_in column))) is
    ∙ ap (λ (n : ℕ). set (p ++ l ∷ ls) n (lane_after_all (get_or (p ++ l ∷ ls) n (fresh_lane 0)) (shown_in column))) e
    ∙ at_seam p l ls (λ y. lane_after_all y (shown_in column))
    ∙ ap (λ y. p ++ y ∷ ls) (shown_taken l column))

columns_from : (k : ℕ) (p ls : List LaneState) (column : List LaneStep) (columns : List (List LaneStep)) (d : State) → k ≡ length p → d.lanes ≡ p ++ ls → length ls ≡ suc (length columns) →
    columns_taken k (column ∷ columns) d ≡ held d (p ++ lanes_all ls (column ∷ columns))
columns_from k p [] column columns d e is count = absurd (omega (arith, count))
columns_from k p (l ∷ ls) column [] d e is count =
    one_taken k p l ls column d e is ∙ ap (λ (zs : List LaneState). held d (p ++ lane_after_all l column ∷ zs)) (sym (no_columns ls))
columns_from k p (l ∷ ls) column (next ∷ columns) d e is count =
    let x = lane_after_all l column in
    let n = length_push p x in
    let here : steps_taken k (shown_in column) d ≡ held d (p ++ x ∷ ls) = one_taken k p l ls column d e is in
    let on = columns_from (k + 1) (p ++ x ∷ []) ls next columns (held d (p ++ x ∷ ls)) (omega (arith, e, n)) (sym (pushed p x ls)) (omega (arith, count)) in
    ap (columns_taken (k + 1) (next ∷ columns)) here ∙ on ∙ ap (held d) (pushed p x (lanes_all ls (next ∷ columns)))

-- ---- tick by tick

conses : {A : Type 0} {a b : A} {xs ys : List A} → a ≡ b → xs ≡ ys → a ∷ xs ≡ b ∷ ys
conses e f = cc

pub ticked_push : (d : State) (ticks : List (List LaneStep)) (tick : List LaneStep) → ticked_all d (ticks ++ tick ∷ []) ≡ ticked (ticked_all d ticks) tick
ticked_push d [] tick = refl
ticked_push d (t ∷ ticks) tick = ticked_push (ticked d t) ticks tick

lanes_push : (n m : ℕ) (ls : List LaneState) (columns : List (List LaneStep)) → n < m → AreLong m columns →
    lanes_after (lanes_all ls (map (take n) columns)) (tick_at columns n) ≡ lanes_all ls (map (take (n + 1)) columns)
lanes_push n m [] columns lt long = refl
lanes_push n m (l ∷ ls) [] lt long = refl
lanes_push n m (l ∷ ls) (c ∷ cs) lt long =
    let h = long.0 in
    conses (sym (ap (lane_after_all l) (take_more c n steps.Ended (omega (arith, lt, h))) ∙ after_push l (take n c) (get_or c n steps.Ended))) (lanes_push n m ls cs lt long.1)

none_yet : (ls : List LaneState) (columns : List (List LaneStep)) → lanes_all ls (map (take 0) columns) ≡ ls
none_yet [] columns = refl
none_yet (l ∷ ls) [] = refl
none_yet (l ∷ ls) (c ∷ cs) = ap (λ zs. l ∷ zs) (none_yet ls cs)

whole_columns : (n : ℕ) (columns : List (List LaneStep)) → AreLong n columns → map (take n) columns ≡ columns
whole_columns n [] long = refl
whole_columns n (c ∷ cs) long = (let h = long.0 in conses (take_all n c (omega (arith, h))) (whole_columns n cs long.1))

pub one_more : (columns : List (List LaneStep)) (n : ℕ) → ticks_of columns (n + 1) ≡ ticks_of columns n ++ tick_at columns n ∷ []
one_more columns n = map-range_with_len_more (tick_at columns) 0 n n (omega arith)

-- after the first n bits
ticks_held : (n m : ℕ) (d : State) (columns : List (List LaneStep)) → n ≤ m → AreLong m columns →
    with_settled (ticked_all d (ticks_of columns n)) false ≡ held d (lanes_all d.lanes (map (take n) columns))
ticks_held zero m d columns le long = ap (held d) (sym (none_yet d.lanes columns))
ticks_held (suc n) m d columns le long =
    let e : suc n ≡ n + 1 = omega arith in
    let before = ticks_held n m d columns (omega (arith, le)) long in
    ap (λ (k : ℕ). with_settled (ticked_all d (ticks_of columns k)) false) e
    ∙ ap (λ (ts : List (List LaneStep)). with_settled (ticked_all d ts) false) (one_more columns n)
    ∙ ap (λ (x : State). with_settled x false) (ticked_push d (ticks_of columns n) (tick_at columns n))
    ∙ ap (λ (x : State). ticked x (tick_at columns n)) before
    ∙ ap (held d) (lanes_push n m d.lanes columns (omega (arith, le)) long)
    ∙ ap (λ (k : ℕ). held d (lanes_all d.lanes (map (take k) columns))) (sym e)

unsettled : (d : State) (tick : List LaneStep) (ticks : List (List LaneStep)) → with_settled (ticked_all d (tick ∷ ticks)) false ≡ ticked_all d (tick ∷ ticks)
unsettled d tick [] = refl
unsettled d tick (t ∷ ticks) = unsettled (ticked d tick) t ticks

-- ---- the laws

-- of no bits too, but that it is not settled then
pub taken_is : (d : State) (columns : List (List LaneStep)) (n : ℕ) → 1 ≤ length d.lanes → length columns ≡ length d.lanes → AreLong n columns →
    columns_taken 0 columns d ≡ with_settled (ticked_all d (ticks_of columns n)) false
taken_is d [] n some count long = absurd (omega (arith, some, count))
taken_is d (c ∷ cs) n some count long =
    columns_from 0 [] d.lanes c cs d refl refl (sym count)
    ∙ ap (λ (zs : List (List LaneStep)). held d (lanes_all d.lanes zs)) (sym (whole_columns n (c ∷ cs) long))
    ∙ sym (ticks_held n n d (c ∷ cs) (omega arith) long)

pub columns_are_ticks : ColumnsAreTicks
columns_are_ticks d columns zero some lanes count long = absurd (omega (arith, some))
columns_are_ticks d columns (suc n) some lanes count long =
    taken_is d columns (suc n) lanes count long ∙ unsettled d (tick_at columns 0) (map (tick_at columns) (range_with_len 1 n))

pub unsettled_stands : (more : ℕ) (d : State) (s : Settings) (ticks : List (List LaneStep)) (given : List Aligned) → StandsWith more d s ticks given → StandsWith more (with_settled d false) s ticks given
unsettled_stands more d s ticks given stands =
    let k = stands.keeps in
    record {
      known = stands.known;
      keeps = record {
        link = k.link;
        settings = k.settings;
        are = k.are;
        starts = k.starts;
        each = k.each;
        lanes = k.lanes;
        leads = k.leads;
        placed = k.placed;
        last = λ (f : false ≡ true). absurd (never f);
      };
    }
  where
    never : false ≡ true → ⊥
    never f = cc

pub kept_count : (L room : ℕ) (lanes : List LaneSoFar) (starts : List ℕ) → length starts ≡ length lanes → length (kept_lanes L room lanes starts) ≡ length lanes
kept_count L room [] starts e = refl
kept_count L room (lane ∷ lanes) [] e = absurd (omega (arith, e))
kept_count L room (lane ∷ lanes) (start ∷ starts) e = ap suc (kept_count L room lanes starts (omega (arith, e)))

whole_ticks : (columns : List (List LaneStep)) (k m lanes : ℕ) → length columns ≡ lanes → AreLong lanes (map (tick_at columns) (range_with_len k m))
whole_ticks columns k zero lanes e = tt
whole_ticks columns k (suc m) lanes e = (length-map columns (λ (column : List LaneStep). get_or column k steps.Ended) ∙ e, whole_ticks columns (k + 1) m lanes e)

pub batch_of_columns : BatchOfColumns
batch_of_columns d s ticks given columns n can few count long are stands =
    let k = stands.keeps in
    let shown : length (lanes_shown s.lanes ticks) ≡ s.lanes = length-map-range_with_len (λ (i : ℕ). lane_shown (steps_in i ticks)) 0 s.lanes in
    let lanes : length d.lanes ≡ s.lanes = ap length k.lanes ∙ kept_count s.metaframe (ring_of s) (lanes_shown s.lanes ticks) k.starts (k.each ∙ sym shown) ∙ shown in
    let some = k.link.lanes.0 in
    let l = length-map-range_with_len (tick_at columns) 0 n in
    let is = taken_is d columns n (omega (arith, lanes, some)) (count ∙ sym lanes) long in
    subst (λ (x : State). StandsWith most_ahead x s (ticks ++ ticks_of columns n) given) (sym is)
    (unsettled_stands most_ahead (ticked_all d (ticks_of columns n)) s (ticks ++ ticks_of columns n) given
    (batch_runs_ahead d s ticks given (ticks_of columns n) can (omega (arith, few, l)) (whole_ticks columns 0 n s.lanes count) are stands))

-- and none of their steps declares a lock
pub columns_keep_locks : (d : State) (s : Settings) (ticks : List (List LaneStep)) (given : List Aligned) (columns : List (List LaneStep)) (n : ℕ) → can_run_ahead d ≡ true → n ≤ 67 * most_ahead →
    length columns ≡ s.lanes → AreTicks s (ticks ++ ticks_of columns n) → Stands d s ticks given → list_all (list_all keeps_lock) (ticks_of columns n) ≡ true
columns_keep_locks d s ticks given columns n can few count are stands =
    let l = length-map-range_with_len (tick_at columns) 0 n in
    batch_keeps_locks d s ticks given (ticks_of columns n) can (omega (arith, few, l)) (whole_ticks columns 0 n s.lanes count) are stands

-- one column more
pub columns_more : (k : ℕ) (columns : List (List LaneStep)) (column : List LaneStep) (d : State) →
    columns_taken k (columns ++ column ∷ []) d ≡ steps_taken (k + length columns) (shown_in column) (columns_taken k columns d)
columns_more k [] column d = (let e : k ≡ k + 0 = omega arith in ap (λ (i : ℕ). steps_taken i (shown_in column) d) e)
columns_more k (c ∷ cs) column d =
    let e : k + 1 + length cs ≡ k + suc (length cs) = omega arith in
    columns_more (k + 1) cs column (steps_taken k (shown_in c) d)
    ∙ ap (λ (i : ℕ). steps_taken i (shown_in column) (columns_taken (k + 1) cs (steps_taken k (shown_in c) d))) e
