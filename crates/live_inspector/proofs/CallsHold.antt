-- The laws on any calls.
use Rattle.std.proofs.Common.{ℕ, ◌≡◌, refl, sym, ap, ◌∙◌, subst, ◌<◌, ◌==◌, cond, Bool, true, false, List, [], ◌∷◌, ◌++◌, length, get_or, set, take, arith, append_assoc, ne_eqb, eqb-true, Some, None, Result, Ok, Err, inl, inr}
use Rattle.std.proofs.lemmas.Bool.{eq-eqb, eqb-false}
use Rattle.std.proofs.lemmas.List.{append-nil, get_or-set_other, get_or-set_same, length-set}
use Rattle.std.proofs.lemmas.List.Concat.{flat_map-append}
use Rattle.lk_base.specs.Checksum.{bits_of, bits_of_bytes}
use Rattle.lk_base.specs.Link.{Settings}
use Rattle.lane_events.specs.declared.types.LaneEvent.{LaneEvent}
use Rattle.lane_events.specs.Events.{AreLaneEvents}
use Rattle.lane_events.proofs.EventsHold.{earlier_events_stay, events_determined}
use Rattle.live_inspector.specs.Calls.{event_of}
use Rattle.live_inspector.specs.Lanes.{IsFeed, IsFinish, Lane, Stands, Told, gave, took, untold}
use Rattle.live_inspector.specs.Laws.{AllAreGiven, AreCalls, Call, CallsStand, ComesTo, Feed, Finish, GivenAreFirst, History, Leads, Look, Next, told_after, with_told}
use Rattle.live_inspector.specs.declared.misuse.Misuse.{Misuse}

-- all lanes stand so
record AllStand (s : Settings) (lanes : List Lane) (h : History) : Type 0 where
  count : length lanes ≡ s.lanes
  each : (i : ℕ) (d : Lane) → i < s.lanes → Stands s (get_or lanes i d) (h i)

-- ---- one lane

by_test : (P : Type 0) (b : Bool) → (b ≡ true → P) → (b ≡ false → P) → P
by_test P true t f = t refl
by_test P false t f = f refl

told_here : (lane : ℕ) (change : Told → Told) (h : History) → with_told lane change h lane ≡ change (h lane)
told_here lane change h = ap (λ b. cond b (change (h lane)) (h lane)) (eq-eqb lane lane refl)

told_there : (lane i : ℕ) (change : Told → Told) (h : History) → (i ≡ lane → ⊥) → with_told lane change h i ≡ h i
told_there lane i change h other = ap (λ b. cond b (change (h i)) (h i)) (ne_eqb i lane other)

-- one lane changes, and what happened to it
set_stands : (s : Settings) (old : List Lane) (h k : History) (lane : ℕ) (m : Lane) → AllStand s old h → lane < length old → Stands s m (k lane) → ((i : ℕ) → (i ≡ lane → ⊥) → k i ≡ h i) → AllStand s (set old lane m) k
set_stands s old h k lane m all lt here others = record {
  count = length-set old lane m ∙ all.count;
  each = λ i d there. by_test (Stands s (get_or (set old lane m) i d) (k i)) (i == lane)
      (λ t.
      let e : i ≡ lane = eqb-true i lane t in
      subst (λ (j : ℕ). Stands s (get_or (set old lane m) j d) (k j)) (sym e) (subst (λ (l : Lane). Stands s l (k lane)) (sym (get_or-set_same old lane m d lt)) here))
      (λ f.
      let other : i ≡ lane → ⊥ = eqb-false i lane f in
      subst (λ (l : Lane). Stands s l (k i)) (sym (get_or-set_other old lane i m d other))
      (subst (λ (t : Told). Stands s (get_or old i d) t) (sym (others i other)) (all.each i d there)));
}

-- ---- one call

fed : (s : Settings) (old : List Lane) (h : History) (lane : ℕ) (piece : List ℕ) (answer : Result ℕ Misuse) (l m : Lane) → AllStand s old h → lane < length old → ((d : Lane) → get_or old lane d ≡ l) →
    IsFeed l m piece answer → AllStand s (set old lane m) (told_after (Feed lane piece answer) h)
fed s old h lane piece (Ok n) l m all lt is (free, takes) =
    let count = all.count in
    let here : Stands s l (h lane) = subst (λ (x : Lane). Stands s x (h lane)) (is l) (all.each lane l (omega (arith, lt, count))) in
    set_stands s old h (with_told lane (took (take n piece)) h) lane m all lt
    (subst (λ (t : Told). Stands s m t) (sym (told_here lane (took (take n piece)) h)) (takes.stands s (h lane) here))
    (λ i other. told_there lane i (took (take n piece)) h other)
fed s old h lane piece (Err why) l m all lt is (free, same) =
    let count = all.count in
    let here : Stands s l (h lane) = subst (λ (x : Lane). Stands s x (h lane)) (is l) (all.each lane l (omega (arith, lt, count))) in
    set_stands s old h h lane m all lt (subst (λ (x : Lane). Stands s x (h lane)) (sym same) here) (λ i other. refl)

stands_finished : (s : Settings) (l : Lane) (t : Told) → Stands s l t → Stands s (record l { finished = true }) t
stands_finished s l t k = record { inspects = k.inspects; count = k.count; events = k.events }

ended : (s : Settings) (l m : Lane) (t : Told) (answer : Result (Unit {0}) Misuse) → Stands s l t → IsFinish l m answer → Stands s m t
ended s l m t (Ok u) k (free, is) = subst (λ (x : Lane). Stands s x t) (sym is) (stands_finished s l t k)
ended s l m t (Err why) k (free, is) = subst (λ (x : Lane). Stands s x t) (sym is) k

stands_given : (s : Settings) (l : Lane) (t : Told) (event : LaneEvent) (rest : List LaneEvent) → l.due ≡ event ∷ rest → Stands s l t → Stands s (record l { due = rest }) (gave event t)
stands_given s l t event rest e k = record {
  inspects = k.inspects;
  count = k.count;
  events = subst (λ (es : List LaneEvent). AreLaneEvents s (bits_of_bytes t.bytes) es) (ap (λ (es : List LaneEvent). t.given ++ es) e ∙ sym (append_assoc t.given (event ∷ []) rest)) k.events;
}

one_call : (s : Settings) (call : Call) (old new : List Lane) (h : History) → Leads call old new → AllStand s old h → AllStand s new (told_after call h)
one_call s (Feed lane piece answer) old new h (inl (le, e, same)) all =
    subst (λ (a : Result ℕ Misuse). AllStand s new (told_after (Feed lane piece a) h)) (sym e) (subst (λ (ls : List Lane). AllStand s ls h) (sym same) all)
one_call s (Feed lane piece answer) old new h (inr (lt, (l, m, (is, does, becomes)))) all =
    subst (λ (ls : List Lane). AllStand s ls (told_after (Feed lane piece answer) h)) (sym becomes) (fed s old h lane piece answer l m all lt is does)
one_call s (Finish lane answer) old new h (inl (le, e, same)) all = subst (λ (ls : List Lane). AllStand s ls h) (sym same) all
one_call s (Finish lane answer) old new h (inr (lt, (l, m, (is, does, becomes)))) all =
    let count = all.count in
    let here : Stands s l (h lane) = subst (λ (x : Lane). Stands s x (h lane)) (is l) (all.each lane l (omega (arith, lt, count))) in
    subst (λ (ls : List Lane). AllStand s ls h) (sym becomes) (set_stands s old h h lane m all lt (ended s l m (h lane) answer here does) (λ i other. refl))
one_call s (Next None) old new h (none, same) all = subst (λ (ls : List Lane). AllStand s ls h) (sym same) all
one_call s (Next (Some e)) old new h (lt, none, (l, rest, (is, due, becomes))) all =
    let count = all.count in
    let here : Stands s l (h e.lane) = subst (λ (x : Lane). Stands s x (h e.lane)) (is l) (all.each e.lane l (omega (arith, lt, count))) in
    subst (λ (ls : List Lane). AllStand s ls (told_after (Next (Some e)) h)) (sym becomes)
    (set_stands s old h (with_told e.lane (gave (event_of e)) h) e.lane (record l { due = rest }) all lt
    (subst (λ (t : Told). Stands s (record l { due = rest }) t) (sym (told_here e.lane (gave (event_of e)) h)) (stands_given s l (h e.lane) (event_of e) rest due here))
    (λ i other. told_there e.lane i (gave (event_of e)) h other))
one_call s Look old new h same all = subst (λ (ls : List Lane). AllStand s ls h) (sym same) all

-- ---- any calls

all_calls : (s : Settings) (calls : List Call) (old new : List Lane) (h k : History) → AreCalls old h calls new k → AllStand s old h → AllStand s new k
all_calls s [] old new h k (e, f) all = subst (λ (ls : List Lane). AllStand s ls k) e (subst (λ (g : History). AllStand s old g) f all)
all_calls s (call ∷ calls) old new h k (mid, leads, rest) all = all_calls s calls mid new (told_after call h) k rest (one_call s call old mid h leads all)

after_all : (s : Settings) (calls : List Call) (lanes : List Lane) (h : History) → ComesTo s calls lanes h → AllStand s lanes h
after_all s calls lanes h (fresh, are, calls_are) =
    let count = are.count in
    all_calls s calls fresh lanes (λ i. untold) h calls_are (record { count = count; each = λ i d lt. (are.each i d (omega (arith, lt, count))).0 })

pub calls_stand : CallsStand
calls_stand s calls lanes h come = let all = after_all s calls lanes h come in (all.count, all.each)

-- a lane that stands for nothing else than to be named
module _ (s : Settings) (lanes : List Lane) (h : History) (all : AllStand s lanes h) (i : ℕ) (lt : i < s.lanes) (d : Lane) where
  first_given : (more : List ℕ) (events : List LaneEvent) → AreLaneEvents s (bits_of_bytes ((h i).bytes ++ more)) events → (rest : List LaneEvent) × (events ≡ (h i).given ++ rest)
  first_given more events are =
      let k = all.each i d lt in
      let long = k.inspects.stands.link.metaframe.0 in
      let due = (get_or lanes i d).due in
      let (rest, is) = earlier_events_stay s (bits_of_bytes (h i).bytes) (bits_of_bytes more) ((h i).given ++ due) events (omega (arith, long)) k.events
      (subst (λ bs. AreLaneEvents s bs events) (flat_map-append (bits_of 8) (h i).bytes more) are) in
      (due ++ rest, is ∙ append_assoc (h i).given due rest)

  all_given : (get_or lanes i d).due ≡ [] → (events : List LaneEvent) → AreLaneEvents s (bits_of_bytes (h i).bytes) events → (h i).given ≡ events
  all_given none events are =
      events_determined s (bits_of_bytes (h i).bytes) (h i).given events
      (subst (λ (es : List LaneEvent). AreLaneEvents s (bits_of_bytes (h i).bytes) es) (ap (λ (es : List LaneEvent). (h i).given ++ es) none ∙ append-nil (h i).given) ((all.each i d lt).events)) are

-- there is a lane
some_lane : (lanes : List Lane) (i : ℕ) → i < length lanes → Lane
some_lane [] i lt = absurd (omega (arith, lt))
some_lane (l ∷ lanes) i lt = l

pub given_are_first : GivenAreFirst
given_are_first s calls lanes h i more events come lt are =
    let all = after_all s calls lanes h come in
    let count = all.count in
    first_given s lanes h all i lt (some_lane lanes i (omega (arith, lt, count))) more events are

pub all_are_given : AllAreGiven
all_are_given s calls lanes h i events come (none, same) lt are =
    let all = after_all s calls lanes h come in
    let count = all.count in
    let there : i < length lanes = omega (arith, lt, count) in
    let d = some_lane lanes i there in
    all_given s lanes h all i lt d (none i d there there) events are
