-- Ticks that are taken outside an epoch while a lane keeps every group away.
use Rattle.std.proofs.Common.{ℕ, zero, suc, ◌≡◌, refl, sym, ap, ◌∙◌, subst, ◌+◌, ◌-◌, ◌*◌, ◌/◌, ◌<◌, ◌≤◌, eqb, Bool, true, false, not, List, [], ◌∷◌, ◌++◌, length, append-nil, append_assoc, arith, inl, inr, Option, None}
use Rattle.std.proofs.lemmas.Grind.{common_steps}
use Rattle.std.specs.Prelude.{◌⊎◌, ◌&&◌, ◌||◌, get_or, if◌then◌else◌, nat_lt}
use Rattle.std.proofs.Math.Nat.{div-add-mod}
use Rattle.std.specs.List.{list_all, list_any}
use Rattle.std.proofs.lemmas.Bool.{and_parts, leb-true, ltb-true, not-true}
use Rattle.std.proofs.lemmas.List.{length-append, length-map}
use Rattle.std.proofs.lemmas.List.FromFn.{length-map-range_with_len}
use Rattle.lk_base.specs.Link.{Settings, IsLink}
use Rattle.lk_base.specs.declared.word.Aligned.{Aligned}
use Rattle.lk_base.specs.declared.word.RxWord.{RxWord}
use Rattle.lk_base.specs.declared.word.RxWord.TheVariants.{Control}
use Rattle.lk_base.proofs.Lists.{list_all-more}
use Rattle.lock_model.proofs.Existing.{clash}
use Rattle.lane_model.specs.Framing.{sync_payload}
use Rattle.lane_model.specs.declared.role.Role.{Role}
use Rattle.lock_model.specs.declared.types.LaneStep.{LaneStep}
use Rattle.lock_model.specs.declared.types.LaneStep.TheVariants as steps
use Rattle.lock_model.specs.Tracks.{Track}
use Rattle.epoch_model.specs.SoFar.{LaneSoFar}
use Rattle.deskew.specs.declared.phase.Phase.{Phase}
use Rattle.deskew.specs.declared.phase.Phase.TheVariants as phases
use Rattle.deskew.specs.States.{LaneState, State}
use Rattle.deskew.specs.Lanes.{has_lock, is_sync, lane_after, lost_lane, over_lane, worded}
use Rattle.deskew.specs.Steps.{are_near, can_begin, first_sync, is_near, lanes_after, lowest, next_item, next_state, ticked, with_settled}
use Rattle.deskew.specs.Ticks.{AreTicks, lane_shown, lanes_shown, steps_in, tick_at, ticks_of}
use Rattle.deskew.specs.Stands.{GivesWith, Stands, StandsAhead, kept, kept_lanes, kept_of, last_track, most_ahead, ring_of}
use Rattle.deskew.specs.Ahead.{is_locked, keeps_lock, ticked_all}
use Rattle.deskew.specs.Awaits.{AreKept, BatchAwaits, highest, is_outside, lags}
use Rattle.deskew.proofs.Clock.{AllOnClock, AllTick, LaneTick, OnClock, all_stepped, stepped}
use Rattle.deskew.proofs.Columns.{kept_count, one_more, taken_is, ticked_push, unsettled_stands}
use Rattle.deskew.proofs.Goings.{either}
use Rattle.deskew.proofs.Inside.{loss_last, ordered_push, word_last}
use Rattle.deskew.proofs.LaneSteps.{kept_has, tick_kept}
use Rattle.deskew.proofs.Nexting.{gives_next, settled_gave_all}
use Rattle.deskew.proofs.Running.{running_begins}
use Rattle.deskew.proofs.Shorter.{ticks_shorter}
use Rattle.deskew.proofs.Ticking.{all_clocks, all_tick, ticked_with}
use Rattle.deskew.proofs.Tracks.{length-keep}

-- ---- no group begins while a lane lags

near_high : (high : ℕ) (ls : List LaneState) → list_all (is_near high) ls ≡ true → highest ls ≤ high
near_high high [] near = omega arith
near_high high (l ∷ ls) near =
    let p = and_parts (is_near high l) (list_all (is_near high) ls) near in
    let here = leb-true l.sync high (and_parts (has_lock l) _ p.0).1 in
    let rest = near_high high ls p.1 in
    omega (arith, here, rest)

never_near : (low high bits first : ℕ) (ls : List LaneState) → list_any (lags bits high) ls ≡ true → list_all (is_near (low + bits)) ls ≡ true → low ≤ lowest first ls → high ≤ low + bits → ⊥
never_near low high bits first [] lag near le top = absurd (let e : false ≡ true = lag in cc)
never_near low high bits first (l ∷ ls) lag near le top =
    let p = and_parts (is_near (low + bits) l) (list_all (is_near (low + bits)) ls) near in
    let has = (and_parts (has_lock l) _ p.0).0 in
    elim (either (lags bits high l)) [
      | inl e ↦ absurd (let q = and_parts l.lost (nat_lt (l.sync + bits) high) (sym (rw has refl) ∙ e) in let far = ltb-true (l.sync + bits) high q.1 in omega (arith, far, le, top))
      | inr e ↦ never_near low high bits first ls (sym (rw e refl) ∙ lag) p.1 (omega (arith, le)) top
    ]

no_group : (first : Bool) (d : State) → list_any (lags (67 * d.settings.deskew) (highest d.lanes)) d.lanes ≡ true → can_begin first d ≡ false
no_group first d lag =
    let bits = 67 * d.settings.deskew in
    let low = lowest (first_sync d.lanes) d.lanes in
    elim (either (are_near bits d.lanes)) [
      | inl e ↦ absurd (never_near low (highest d.lanes) bits (first_sync d.lanes) d.lanes lag e (omega arith) (near_high (low + bits) d.lanes e))
      | inr e ↦ rw e refl
    ]

waits_in : (phase : Phase) (d : State) → d.phase ≡ phase → is_outside phase ≡ true → list_any (lags (67 * d.settings.deskew) (highest d.lanes)) d.lanes ≡ true →
    (next_item d ≡ None) × (next_state d ≡ with_settled d true)
waits_in phases.First d e out lag = (let f = no_group true d lag in (rw (e, f) refl, rw (e, f) refl))
waits_in phases.Between d e out lag = (let f = no_group false d lag in (rw (e, f) refl, rw (e, f) refl))
waits_in (phases.Inside index) d e out lag = absurd (let f : false ≡ true = out in cc)

-- ---- a lane goes on lagging

record Onward (l k : LaneState) : Type 0 where
  none : has_lock l ≡ false → has_lock k ≡ false
  lost : has_lock l ≡ true → l.lost ≡ true → (has_lock k ≡ true) × (k.lost ≡ true) × (k.sync ≡ l.sync)
  sync : l.sync ≤ k.sync

stays : (l : LaneState) → Onward l l
stays l = record { none = λ h. h; lost = λ h e. (h, e, refl); sync = omega arith }

ends : (l : LaneState) → Onward l (over_lane l)
ends l = record { none = λ h. h; lost = λ h e. (h, e, refl); sync = omega arith }

loses : (l : LaneState) → Onward l (lost_lane l)
loses l = record { none = λ h. h; lost = λ h e. (h, h, refl); sync = omega arith }

sync_later : (b : Bool) (at sync : ℕ) → sync ≤ at → sync ≤ (if b then at else sync)
sync_later true at sync le = le
sync_later false at sync le = omega arith

words_on : (w : RxWord) (role : Role) (at : ℕ) (l : LaneState) → l.lost ≡ false → l.sync ≤ at → Onward l (worded w role at l)
words_on w role at l kept le = record {
  none = λ h. rw h h;
  lost = λ h e. absurd (clash e kept);
  sync = elim (either (has_lock l)) [
    | inl h ↦ rw h (sync_later (is_sync role) at l.sync le)
    | inr h ↦ rw h (omega arith)
  ];
}

onward : (L room n : ℕ) (lane : LaneSoFar) (x : LaneStep) (start : ℕ) → 0 < L → LaneTick L n lane x → keeps_lock x ≡ true → Onward (kept L room lane start) (lane_after (kept L room lane start) x)
onward L room n lane steps.Nothing start some t k = stays (kept L room lane start)
onward L room n lane steps.Ended start some t k = ends (kept L room lane start)
onward L room n lane (steps.Lost why at) start some t k = loses (kept L room lane start)
onward L room n lane (steps.Locked at) start some t k = absurd (let e : false ≡ true = k in cc)
onward L room n lane (steps.Word w role at) start some t k =
    let f = t.fits in
    let low = sync_before L (length (last_track lane.tracks).words - 1) in
    let a = f.3 in
    words_on w role at (kept L room lane start) f.1 (omega (arith, a, low))
  where
    sync_before : (L n : ℕ) → L * (n / L) ≤ n
    sync_before L n = (let d = div-add-mod n L in omega (arith, d))

abbrev AreOnward : List LaneState → List LaneState → Type 0
AreOnward [] ks = Unit {0}
AreOnward (l ∷ ls) [] = ⊥
AreOnward (l ∷ ls) (k ∷ ks) = Onward l k × AreOnward ls ks

all_onward : (L room n : ℕ) (lanes : List LaneSoFar) (xs : List LaneStep) (starts : List ℕ) → 0 < L → AllTick L n lanes xs → list_all keeps_lock xs ≡ true →
    AreOnward (kept_lanes L room lanes starts) (lanes_after (kept_lanes L room lanes starts) xs)
all_onward L room n [] xs starts some t k = tt
all_onward L room n (lane ∷ lanes) xs [] some t k = tt
all_onward L room n (lane ∷ lanes) [] (start ∷ starts) some t k = absurd t
all_onward L room n (lane ∷ lanes) (x ∷ xs) (start ∷ starts) some t k =
    let p = and_parts (keeps_lock x) (list_all keeps_lock xs) k in
    (onward L room n lane x start some t.0 p.0, all_onward L room n lanes xs starts some t.1 p.1)

higher : (ls ks : List LaneState) → AreOnward ls ks → highest ls ≤ highest ks
higher [] ks on = omega arith
higher (l ∷ ls) [] on = absurd on
higher (l ∷ ls) (k ∷ ks) on = (let here = on.0.sync in let rest = higher ls ks on.1 in omega (arith, here, rest))

lags_on : (bits high higher : ℕ) (l k : LaneState) → Onward l k → high ≤ higher → lags bits high l ≡ true → lags bits higher k ≡ true
lags_on bits high higher l k on le lag = grind (arith, common_steps)

any_lags : (bits high higher : ℕ) (ls ks : List LaneState) → AreOnward ls ks → high ≤ higher → list_any (lags bits high) ls ≡ true → list_any (lags bits higher) ks ≡ true
any_lags bits high higher (l ∷ ls) (k ∷ ks) on le lag = elim (either (lags bits high l)) [
  | inl e ↦ (let h = lags_on bits high higher l k on.0 le e in rw h refl)
  | inr e ↦ (let h = any_lags bits high higher ls ks on.1 le (sym (rw e refl) ∙ lag) in or_true (lags bits higher k) (list_any (lags bits higher) ks) h)
]
  where
    or_true : (a b : Bool) → b ≡ true → (a || b) ≡ true
    or_true true b e = refl
    or_true false b e = e
any_lags bits high higher ls ks on le lag = absurd (first_of (assumption, cc))

-- ---- no lane declares a lock

-- it was in its lock when this many bits had come, or none of these steps declares a lock
abbrev IsKept : ℕ → LaneState → List LaneStep → Type 0
IsKept m l column = ((has_lock l ≡ true) × (m < l.last + 134)) ⊎ (list_all keeps_lock column ≡ true)

abbrev AllKept : ℕ → List LaneState → List (List LaneStep) → Type 0
AllKept m [] columns = Unit {0}
AllKept m (l ∷ ls) [] = Unit {0}
AllKept m (l ∷ ls) (column ∷ columns) = IsKept m l column × AllKept m ls columns

some_words : (L room : ℕ) (t : Track) (over : Bool) (start : ℕ) → has_lock (kept_of L room t over start) ≡ true → 1 ≤ length t.words
some_words L room t over start h = (let l = length-keep room t.words in let n = not_none _ h in omega (arith, l, n))
  where
    not_none : (n : ℕ) → not (eqb n 0) ≡ true → 1 ≤ n
    not_none zero h = absurd (let e : false ≡ true = h in cc)
    not_none (suc n) h = omega arith

lane_keeps : (s : Settings) (n m : ℕ) (lane : LaneSoFar) (x : LaneStep) (start : ℕ) → IsLink s → LaneTick s.metaframe n lane x → n < m + 67 * most_ahead →
    has_lock (kept s.metaframe (ring_of s) lane start) ≡ true → m < (kept s.metaframe (ring_of s) lane start).last + 134 →
    (keeps_lock x ≡ true) × ((has_lock (kept s.metaframe (ring_of s) (stepped lane x) start) ≡ true) × (m < (kept s.metaframe (ring_of s) (stepped lane x) start).last + 134))
lane_keeps s n m lane steps.Nothing start link t few h is = (refl, (h, is))
lane_keeps s n m lane steps.Ended start link t few h is = (refl, (h, is))
lane_keeps s n m lane (steps.Lost why at) start link t few h is =
    let e = loss_last lane.tracks in
    let a = e.0 in
    let l = e.1 in
    let c = some_words s.metaframe (ring_of s) (last_track lane.tracks) lane.over start h in
    let long = link.metaframe in
    (refl, (kept_has s.metaframe (ring_of s) (omega (arith, long)) (omega arith) (last_track (stepped lane (steps.Lost why at)).tracks) (stepped lane (steps.Lost why at)).over start (omega (arith, c, l)), omega (arith, a, l, is)))
lane_keeps s n m lane (steps.Word w role at) start link t few h is =
    let e = word_last w lane.tracks t.fits.0 in
    let a = e.0 in
    let l = e.1 in
    let long = link.metaframe in
    (refl, (kept_has s.metaframe (ring_of s) (omega (arith, long)) (omega arith) (last_track (stepped lane (steps.Word w role at)).tracks) (stepped lane (steps.Word w role at)).over start (omega (arith, l)), omega (arith, a, l, is)))
lane_keeps s n m lane (steps.Locked at) start link t few h is =
    let c = some_words s.metaframe (ring_of s) (last_track lane.tracks) lane.over start h in
    let f = t.fits.1 in
    let long = link.metaframe.0 in
    let far = ordered_push s.metaframe lane.tracks (record { at = at; words = Control sync_payload ∷ []; lost = false }) t.after.ordered (omega (arith, c)) in
    absurd (omega (arith, far, f, is, c, few, long))

all_keep : (s : Settings) (n m k : ℕ) (lanes : List LaneSoFar) (columns : List (List LaneStep)) (starts : List ℕ) → IsLink s → AllTick s.metaframe n lanes (tick_at columns k) → n < m + 67 * most_ahead →
    length starts ≡ length lanes → AllKept m (kept_lanes s.metaframe (ring_of s) lanes starts) columns →
    (list_all keeps_lock (tick_at columns k) ≡ true) × AllKept m (kept_lanes s.metaframe (ring_of s) (all_stepped lanes (tick_at columns k)) starts) columns
all_keep s n m k [] [] starts link t few e a = (refl, tt)
all_keep s n m k (lane ∷ lanes) (column ∷ columns) (start ∷ starts) link t few e a =
    let rest = all_keep s n m k lanes columns starts link t.1 few (omega (arith, e)) a.1 in
    elim a.0 [
      | inl is ↦
          let here = lane_keeps s n m lane (get_or column k steps.Ended) start link t.0 few is.0 is.1 in
          (both_true here.0 rest.0, (inl here.1, rest.1))
      | inr is ↦ (both_true (keeps_at column k is) rest.0, (inr is, rest.1))
    ]
  where
    both_true : {a b : Bool} → a ≡ true → b ≡ true → (a && b) ≡ true
    both_true e f = rw (e, f) refl

    keeps_at : (column : List LaneStep) (k : ℕ) → list_all keeps_lock column ≡ true → keeps_lock (get_or column k steps.Ended) ≡ true
    keeps_at [] k h = refl
    keeps_at (x ∷ xs) zero h = (and_parts (keeps_lock x) (list_all keeps_lock xs) h).0
    keeps_at (x ∷ xs) (suc k) h = keeps_at xs k (and_parts (keeps_lock x) (list_all keeps_lock xs) h).1
all_keep s n m k lanes columns starts link t few e a = absurd (first_of (assumption, omega arith))

-- ---- many ticks

settled_same : (d : State) → d.settled ≡ true → with_settled d true ≡ d
settled_same d e = (let f : ◌≡◌ {A = State} (record { settings = d.settings; lanes = d.lanes; phase = d.phase; settled = true }) (record { settings = d.settings; lanes = d.lanes; phase = d.phase; settled = d.settled }) = cc in f)

record Reached (n m : ℕ) (d : State) (s : Settings) (ticks : List (List LaneStep)) (given : List Aligned) (columns : List (List LaneStep)) : Type 0 where
  phase : is_outside (ticked_all d (ticks_of columns n)).phase ≡ true
  settings : (ticked_all d (ticks_of columns n)).settings ≡ d.settings
  stands : Stands (with_settled (ticked_all d (ticks_of columns n)) true) s (ticks ++ ticks_of columns n) given
  locks : list_all (list_all keeps_lock) (ticks_of columns n) ≡ true
  kept : AllKept m (ticked_all d (ticks_of columns n)).lanes columns
  lag : list_any (lags (67 * d.settings.deskew) (highest (ticked_all d (ticks_of columns n)).lanes)) (ticked_all d (ticks_of columns n)).lanes ≡ true

reached_none : (m : ℕ) (d : State) (s : Settings) (ticks : List (List LaneStep)) (given : List Aligned) (columns : List (List LaneStep)) → d.settled ≡ true → is_outside d.phase ≡ true →
    list_any (lags (67 * d.settings.deskew) (highest d.lanes)) d.lanes ≡ true → AllKept m d.lanes columns → Stands d s ticks given → Reached 0 m d s ticks given columns
reached_none m d s ticks given columns settled out lag kept stands = record {
  phase = out;
  settings = refl;
  stands = subst (λ (x : State). Stands x s (ticks ++ []) given) (sym (settled_same d settled)) (subst (λ (ts : List (List LaneStep)). Stands d s ts given) (sym (append-nil ticks)) stands);
  locks = refl;
  kept = kept;
  lag = lag;
}

reached_more : (n m : ℕ) (d : State) (s : Settings) (ticks : List (List LaneStep)) (given : List Aligned) (columns : List (List LaneStep)) → m ≡ length ticks → n < 67 * most_ahead →
    length columns ≡ s.lanes → AreTicks s (ticks ++ ticks_of columns (n + 1)) → Reached n m d s ticks given columns → Reached (n + 1) m d s ticks given columns
reached_more n m d s ticks given columns at few count are r =
    let gone = ticks_of columns n in
    let tick = tick_at columns n in
    let all : ticks ++ ticks_of columns (n + 1) ≡ (ticks ++ gone) ++ tick ∷ [] =
    ap (λ (ts : List (List LaneStep)). ticks ++ ts) (one_more columns n) ∙ sym (append_assoc ticks gone (tick ∷ [])) in
    let here : AreTicks s ((ticks ++ gone) ++ tick ∷ []) = subst (λ (ts : List (List LaneStep)). AreTicks s ts) all are in
    let x = ticked_all d gone in
    let e = with_settled x true in
    let k = r.stands.keeps in
    let len : length tick ≡ s.lanes = length-map columns (λ (column : List LaneStep). get_or column n steps.Ended) ∙ count in
    let before = lanes_shown s.lanes (ticks ++ gone) in
    let each : length k.starts ≡ length before = k.each ∙ sym (length-map-range_with_len (λ (i : ℕ). lane_shown (steps_in i (ticks ++ gone))) 0 s.lanes) in
    let t = all_tick 0 e s (ticks ++ gone) given tick len here r.stands in
    let long = k.link.metaframe in
    let a = length-append ticks gone in
    let b = length-map-range_with_len (tick_at columns) 0 n in
    let clock : length (ticks ++ gone) < m + 67 * most_ahead = omega (arith, a, b, at, few) in
    let keep = all_keep s (length (ticks ++ gone)) m n before columns k.starts k.link t clock each (subst (λ (ls : List LaneState). AllKept m ls columns) k.lanes r.kept) in
    let kept : lanes_after x.lanes tick ≡ kept_lanes s.metaframe (ring_of s) (all_stepped before tick) k.starts =
    ap (λ (ls : List LaneState). lanes_after ls tick) k.lanes ∙ tick_kept s.metaframe (ring_of s) (omega (arith, long)) (omega arith) (length (ticks ++ gone)) before tick k.starts each t in
    let on : AreOnward x.lanes (lanes_after x.lanes tick) = subst (λ (ls : List LaneState). AreOnward ls (lanes_after ls tick)) (sym k.lanes)
    (all_onward s.metaframe (ring_of s) (length (ticks ++ gone)) before tick k.starts (omega (arith, long)) t keep.0) in
    let bits = 67 * d.settings.deskew in
    let f = ticked x tick in
    let lag : list_any (lags bits (highest f.lanes)) f.lanes ≡ true = any_lags bits (highest x.lanes) (highest f.lanes) x.lanes f.lanes on (higher x.lanes f.lanes on) r.lag in
    let st : Stands f s ((ticks ++ gone) ++ tick ∷ []) given = ticked_with 0 e s (ticks ++ gone) given tick len here r.stands refl in
    let w = waits_in f.phase f refl r.phase (subst (λ (z : Settings). list_any (lags (67 * z.deskew) (highest f.lanes)) f.lanes ≡ true) (sym r.settings) lag) in
    let g : GivesWith 0 None (with_settled f true) s ((ticks ++ gone) ++ tick ∷ []) given =
    subst (λ (y : State). GivesWith 0 None y s ((ticks ++ gone) ++ tick ∷ []) given) w.1
    (subst (λ (i : Option Aligned). GivesWith 0 i (next_state f) s ((ticks ++ gone) ++ tick ∷ []) given) w.0 (gives_next 0 (omega arith) f s ((ticks ++ gone) ++ tick ∷ []) given st)) in
    let is : ticked_all d (ticks_of columns (n + 1)) ≡ f = ap (ticked_all d) (one_more columns n) ∙ ticked_push d gone tick in
    record {
      phase = ap (λ (y : State). is_outside y.phase) is ∙ r.phase;
      settings = ap (λ (y : State). y.settings) is ∙ r.settings;
      stands = subst (λ (ts : List (List LaneStep)). Stands (with_settled (ticked_all d (ticks_of columns (n + 1))) true) s ts given) (sym all)
          (subst (λ (y : State). Stands (with_settled y true) s ((ticks ++ gone) ++ tick ∷ []) given) (sym is) g.1);
      locks = subst (λ (ts : List (List LaneStep)). list_all (list_all keeps_lock) ts ≡ true) (sym (one_more columns n)) (list_all-more (list_all keeps_lock) gone tick r.locks keep.0);
      kept = subst (λ (y : State). AllKept m y.lanes columns) (sym is) (subst (λ (ls : List LaneState). AllKept m ls columns) (sym kept) keep.1);
      lag = subst (λ (y : State). list_any (lags bits (highest y.lanes)) y.lanes ≡ true) (sym is) lag;
    }

reached : (n m : ℕ) (d : State) (s : Settings) (ticks : List (List LaneStep)) (given : List Aligned) (columns : List (List LaneStep)) → m ≡ length ticks → n ≤ 67 * most_ahead →
    length columns ≡ s.lanes → AreTicks s (ticks ++ ticks_of columns n) → Reached 0 m d s ticks given columns → Reached n m d s ticks given columns
reached zero m d s ticks given columns at few count are r = r
reached (suc n) m d s ticks given columns at few count are r =
    let e : n + 1 ≡ suc n = omega arith in
    let more : AreTicks s (ticks ++ ticks_of columns (n + 1)) = subst (λ (k : ℕ). AreTicks s (ticks ++ ticks_of columns k)) (sym e) are in
    let all : ticks ++ ticks_of columns (n + 1) ≡ (ticks ++ ticks_of columns n) ++ tick_at columns n ∷ [] =
    ap (λ (ts : List (List LaneStep)). ticks ++ ts) (one_more columns n) ∙ sym (append_assoc ticks (ticks_of columns n) (tick_at columns n ∷ [])) in
    let fewer : AreTicks s (ticks ++ ticks_of columns n) = ticks_shorter s (ticks ++ ticks_of columns n) (tick_at columns n ∷ []) (subst (λ (ts : List (List LaneStep)). AreTicks s ts) all more) in
    subst (λ (k : ℕ). Reached k m d s ticks given columns) e
    (reached_more n m d s ticks given columns at (omega (arith, few)) count more (reached n m d s ticks given columns at (omega (arith, few)) count fewer r))

-- ---- at the beginning

lane_begins : (L room n : ℕ) (lane : LaneSoFar) (column : List LaneStep) (start : ℕ) → OnClock L n lane →
    (is_locked (kept L room lane start) ≡ true) ⊎ (list_all keeps_lock column ≡ true) → IsKept n (kept L room lane start) column
lane_begins L room n lane column start o (inr k) = inr k
lane_begins L room n lane column start o (inl locked) =
    let p = and_parts (has_lock (kept L room lane start) && not (last_track lane.tracks).lost) (not lane.over) locked in
    let q = and_parts (has_lock (kept L room lane start)) (not (last_track lane.tracks).lost) p.0 in
    let c = some_words L room (last_track lane.tracks) lane.over start q.0 in
    let next = o.next (omega (arith, c)) (not-true (last_track lane.tracks).lost q.1) (not-true lane.over p.1) in
    inl (q.0, omega (arith, next, c))

all_begin : (L room n : ℕ) (lanes : List LaneSoFar) (columns : List (List LaneStep)) (starts : List ℕ) → AllOnClock L n lanes → AreKept (kept_lanes L room lanes starts) columns →
    AllKept n (kept_lanes L room lanes starts) columns
all_begin L room n [] columns starts o k = tt
all_begin L room n (lane ∷ lanes) columns [] o k = tt
all_begin L room n (lane ∷ lanes) [] (start ∷ starts) o k = tt
all_begin L room n (lane ∷ lanes) (column ∷ columns) (start ∷ starts) o k =
    (lane_begins L room n lane column start o.0 k.0, all_begin L room n lanes columns starts o.1 k.1)

pub batch_awaits : BatchAwaits
batch_awaits d s ticks given columns n can few count long kept are stands =
    let p = and_parts d.settled (is_outside d.phase && list_any (lags (67 * d.settings.deskew) (highest d.lanes)) d.lanes) can in
    let q = and_parts (is_outside d.phase) (list_any (lags (67 * d.settings.deskew) (highest d.lanes)) d.lanes) p.1 in
    let k = stands.keeps in
    let begin : AllKept (length ticks) d.lanes columns = subst (λ (ls : List LaneState). AllKept (length ticks) ls columns) (sym k.lanes)
    (all_begin s.metaframe (ring_of s) (length ticks) (lanes_shown s.lanes ticks) columns k.starts (all_clocks s ticks k.link k.are)
    (subst (λ (ls : List LaneState). AreKept ls columns) k.lanes kept)) in
    let r = reached n (length ticks) d s ticks given columns refl few count are (reached_none (length ticks) d s ticks given columns p.0 q.0 q.1 begin stands) in
    let shown : length (lanes_shown s.lanes ticks) ≡ s.lanes = length-map-range_with_len (λ (i : ℕ). lane_shown (steps_in i ticks)) 0 s.lanes in
    let lanes : length d.lanes ≡ s.lanes = ap length k.lanes ∙ kept_count s.metaframe (ring_of s) (lanes_shown s.lanes ticks) k.starts (k.each ∙ sym shown) ∙ shown in
    let some = k.link.lanes.0 in
    let is = taken_is d columns n (omega (arith, lanes, some)) (count ∙ sym lanes) long in (
      subst (λ (x : State). StandsAhead x s (ticks ++ ticks_of columns n) given) (sym is)
          (unsettled_stands most_ahead (with_settled (ticked_all d (ticks_of columns n)) true) s (ticks ++ ticks_of columns n) given
          (running_begins (with_settled (ticked_all d (ticks_of columns n)) true) s (ticks ++ ticks_of columns n) given r.stands)),
      (settled_gave_all 0 (with_settled (ticked_all d (ticks_of columns n)) true) s (ticks ++ ticks_of columns n) given refl r.stands).0,
      r.locks,
    )
