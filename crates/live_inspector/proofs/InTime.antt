-- When events are due.
use Rattle.std.proofs.Common.{ℕ, suc, ◌≡◌, refl, sym, ap, ◌∙◌, subst, ◌+◌, ◌-◌, ◌*◌, ◌<◌, ◌≤◌, Bool, true, false, List, [], ◌∷◌, ◌++◌, length, filter, get_or, take, drop, arith, inl, inr, append_assoc, append-nil}
use Rattle.std.specs.Prelude.{nat_le}
use Rattle.std.proofs.lemmas.Bool.{cases_Bool, cases_lt, le-leb}
use Rattle.std.proofs.lemmas.List.{length-append, length-take-le, take-append-drop, take-take}
use Rattle.std.proofs.lemmas.List.Concat.{flat_map-append}
use Rattle.lk_base.specs.Checksum.{bits_of, bits_of_bytes}
use Rattle.lk_base.specs.Link.{Settings}
use Rattle.lane_events.specs.declared.types.LaneEvent.{LaneEvent}
use Rattle.lane_events.specs.EventLaw.{is_within}
use Rattle.lane_events.specs.Events.{AreLaneEvents}
use Rattle.lane_lock.proofs.Batches.{length-bytes}
use Rattle.lane_events.proofs.Due.{events_are_due}
use Rattle.live_inspector.specs.Laws.{EventsAreInTime, FeedStopsSoon}
use Rattle.live_inspector.specs.Lanes.{Lane, Stands, Takes, Told}
use Rattle.live_inspector.proofs.CallsHold.{calls_stand}

pub events_are_in_time : EventsAreInTime
events_are_in_time s calls lanes h i d more all come lt are =
    let k = (calls_stand s calls lanes h come).1 i d lt in
    let bytes : List ℕ = (h i).bytes in
    let due = (get_or lanes i d).due in
    let long = k.inspects.stands.link.metaframe.0 in
    events_are_due s (bits_of_bytes bytes) (bits_of_bytes more) ((h i).given ++ due) all (omega (arith, long)) k.events
    (subst (λ bs. AreLaneEvents s bs all) (flat_map-append (bits_of 8) bytes more) are)
    ∙ ap (λ (n : ℕ). filter (is_within n) all) (length-bytes bytes)

-- ---- how far a call goes

few : (f : LaneEvent → Bool) (es : List LaneEvent) → length (filter f es) ≤ length es
few f [] = omega arith
few f (e ∷ es) = elim (cases_Bool (f e)) [
  | inl yes_it ↦ (let r = few f es in rw yes_it (omega (arith, r)))
  | inr not_it ↦ (let r = few f es in rw not_it (omega (arith, r)))
]

-- as many events as those given pass, so none after these does
none_more : (f : LaneEvent → Bool) (given : List LaneEvent) (first : LaneEvent) (others : List LaneEvent) → filter f given ≡ given → given ≡ filter f (given ++ first ∷ others) → f first ≡ true → ⊥
none_more f given first others own all here =
    let both : filter f (given ++ first ∷ others) ≡ filter f given ++ filter f (first ∷ others) = appended given (first ∷ others) in
    let one : length (filter f (first ∷ others)) ≡ suc (length (filter f others)) = rw here refl in
    let count : length given ≡ length (filter f given) + length (filter f (first ∷ others)) = ap length (all ∙ both) ∙ length-append (filter f given) (filter f (first ∷ others)) in
    let same : length (filter f given) ≡ length given = ap length own in
    omega (arith, one, count, same)
  where
    appended : (xs ys : List LaneEvent) → filter f (xs ++ ys) ≡ filter f xs ++ filter f ys
    appended [] ys = refl
    appended (x ∷ xs) ys = elim (cases_Bool (f x)) [
      | inl yes_it ↦ rw yes_it (ap (λ (es : List LaneEvent). x ∷ es) (appended xs ys))
      | inr not_it ↦ rw not_it (appended xs ys)
    ]

module _ (s : Settings) (l m : Lane) (piece : List ℕ) (n : ℕ) (t : Told) (k : Stands s l t) (takes : Takes l m piece n) (none : l.due ≡ []) (first : LaneEvent) (others : List LaneEvent) (due : m.due ≡ first ∷ others) where
  long : 32 ≤ s.metaframe
  long = (let e = k.inspects.stands.link.metaframe.0 in omega (arith, e))

  -- the events after the call
  after : AreLaneEvents s (bits_of_bytes (t.bytes ++ take n piece)) (t.given ++ first ∷ others)
  after = subst (λ (es : List LaneEvent). AreLaneEvents s (bits_of_bytes (t.bytes ++ take n piece)) (t.given ++ es)) due (takes.stands s t k).events

  -- no event that was not given is of a word that ends with these bytes or before
  not_before : (bytes rest : List ℕ) → t.bytes ++ take n piece ≡ bytes ++ rest → AreLaneEvents s (bits_of_bytes bytes) t.given → 8 * length bytes < first.bit + 67
  not_before bytes rest is events = elim (cases_lt (8 * length bytes) (first.bit + 67)) [
    | inl lt ↦ lt
    | inr ge ↦ absurd (none_more (is_within (8 * length bytes)) t.given first others own all (le-leb (first.bit + 67) (8 * length bytes) ge))
  ]
    where
      own : filter (is_within (8 * length bytes)) t.given ≡ t.given
      own = sym (events_are_due s (bits_of_bytes bytes) [] t.given t.given long events
          (subst (λ bs. AreLaneEvents s bs t.given) (sym (append-nil (bits_of_bytes bytes))) events)
          ∙ ap (λ (c : ℕ). filter (is_within c) t.given) (length-bytes bytes))

      all : t.given ≡ filter (is_within (8 * length bytes)) (t.given ++ first ∷ others)
      all = events_are_due s (bits_of_bytes bytes) (bits_of_bytes rest) t.given (t.given ++ first ∷ others) long events
          (subst (λ bs. AreLaneEvents s bs (t.given ++ first ∷ others)) (ap bits_of_bytes is ∙ flat_map-append (bits_of 8) bytes rest) after)
          ∙ ap (λ (c : ℕ). filter (is_within c) (t.given ++ first ∷ others)) (length-bytes bytes)

  -- the events before the call, and after all bytes but the last seven, are those that were given
  as_given : (bytes : List ℕ) → AreLaneEvents s (bits_of_bytes bytes) (t.given ++ l.due) → AreLaneEvents s (bits_of_bytes bytes) t.given
  as_given bytes events = subst (λ (es : List LaneEvent). AreLaneEvents s (bits_of_bytes bytes) es) (ap (λ (es : List LaneEvent). t.given ++ es) none ∙ append-nil t.given) events

  pub stops_soon : 8 * (length t.bytes + n) < first.bit + 67 + 56
  stops_soon = elim (cases_lt n 7) [
    | inl few_bytes ↦ (let lt = not_before t.bytes (take n piece) refl (as_given t.bytes k.events) in omega (arith, lt, few_bytes))
    | inr more ↦ (
        let c : ℕ = n - 7 in
        let within = takes.within in
        let put = takes.soon c (omega (arith, more)) s t k in
        let rest : List ℕ = drop c (take n piece) in
        let front : take n piece ≡ take c piece ++ rest = sym (take-append-drop c (take n piece)) ∙ ap (λ (bs : List ℕ). bs ++ rest) (take-take c n piece (omega arith)) in
        let lt = not_before (t.bytes ++ take c piece) (rest) (ap (λ (bs : List ℕ). t.bytes ++ bs) front ∙ sym (append_assoc t.bytes (take c piece) (rest))) (as_given (t.bytes ++ take c piece) put) in
        let size = length-append t.bytes (take c piece) in
        let count = length-take-le c piece (omega (arith, within, more)) in
        omega (arith, lt, size, count, more))
  ]

pub feed_stops_soon : FeedStopsSoon
feed_stops_soon s l m piece n t first others k takes none due = stops_soon s l m piece n t k takes none first others due
