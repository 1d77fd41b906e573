-- Bytes are taken up to a word that shows events.
use Rattle.std.proofs.Common.{ℕ, ◌≡◌, refl, sym, ap, ◌∙◌, subst, ◌+◌, ◌*◌, ◌≤◌, ◌-◌, Bool, List, [], ◌∷◌, ◌++◌, length, take, drop, arith, append_assoc, false, Option, Some, None, is_some, IfNone}
use Rattle.std.proofs.Math.Seq.{take-add}
use Rattle.std.proofs.lemmas.Bool.{true≢false}
use Rattle.std.proofs.lemmas.List.{append-nil, length-append}
use Rattle.std.proofs.lemmas.List.Concat.{flat_map-append}
use Rattle.lk_base.specs.Checksum.{bits_of, bits_of_bytes}
use Rattle.lane_events.specs.declared.types.LaneEvent.{LaneEvent}
use Rattle.lane_events.specs.declared.word_events.WordEvents.{WordEvents}
use Rattle.lane_events.specs.Events.{AreLaneEvents}
use Rattle.lane_events.specs.Inspection.{GoesOn, Inspects, InspectorView, ShowsNone, shown_in}
use Rattle.lane_events.proofs.EventsHold.{earlier_events_stay, events_exist}

-- the bits of the first bytes, and of some bytes more
bits_added : (bytes : List ℕ) (i count : ℕ) → bits_of_bytes (take (i + count) bytes) ≡ bits_of_bytes (take i bytes) ++ bits_of_bytes (take count (drop i bytes))
bits_added bytes i count = ap bits_of_bytes (take-add i count bytes) ∙ flat_map-append (bits_of 8) (take i bytes) (take count (drop i bytes))

-- some bits after others
pub goes_after : (v u w : InspectorView) (a b : List Bool) (new : List LaneEvent) → GoesOn v u a [] → GoesOn u w b new → GoesOn v w (a ++ b) new
goes_after v u w a b new one two = record {
  inspects = λ s bits k. subst (λ (bs : List Bool). Inspects w s bs) (append_assoc bits a b) (two.inspects s (bits ++ a) (one.inspects s bits k));
  events = λ s bits events k are.
      let front = subst (λ (es : List LaneEvent). AreLaneEvents s (bits ++ a) es) (append-nil events) (one.events s bits events k are) in
      subst (λ (bs : List Bool). AreLaneEvents s bs (events ++ new)) (append_assoc bits a b) (two.events s (bits ++ a) events (one.inspects s bits k) front);
}

-- no bits
pub goes_none : (v : InspectorView) → GoesOn v v [] []
goes_none v = record {
  inspects = λ s bits k. subst (λ (bs : List Bool). Inspects v s bs) (sym (append-nil bits)) k;
  events = λ s bits events k are.
      subst (λ (es : List LaneEvent). AreLaneEvents s (bits ++ []) es) (sym (append-nil events)) (subst (λ (bs : List Bool). AreLaneEvents s bs events) (sym (append-nil bits)) are);
}

-- the next bytes, after some that show nothing
pub goes_bytes : (v u w : InspectorView) (bytes : List ℕ) (i count : ℕ) (new : List LaneEvent) → GoesOn v u (bits_of_bytes (take i bytes)) [] → GoesOn u w (bits_of_bytes (take count (drop i bytes))) new →
    GoesOn v w (bits_of_bytes (take (i + count) bytes)) new
goes_bytes v u w bytes i count new one two =
    subst (λ (bs : List Bool). GoesOn v w bs new) (sym (bits_added bytes i count)) (goes_after v u w (bits_of_bytes (take i bytes)) (bits_of_bytes (take count (drop i bytes))) new one two)

-- given by their number
pub goes_more : (v u w : InspectorView) (bytes : List ℕ) (i count number : ℕ) (new : List LaneEvent) → bits_of (8 * count) number ≡ bits_of_bytes (take count (drop i bytes)) →
    GoesOn v u (bits_of_bytes (take i bytes)) [] → GoesOn u w (bits_of (8 * count) number) new → GoesOn v w (bits_of_bytes (take (i + count) bytes)) new
goes_more v u w bytes i count number new is one two = goes_bytes v u w bytes i count new one (subst (λ (bs : List Bool). GoesOn u w bs new) is two)

-- they are the last
pub goes_to_end : (v u w : InspectorView) (bytes : List ℕ) (i count number : ℕ) (new : List LaneEvent) → bits_of (8 * count) number ≡ bits_of_bytes (take count (drop i bytes)) → i + count ≡ length bytes →
    GoesOn v u (bits_of_bytes (take i bytes)) [] → GoesOn u w (bits_of (8 * count) number) new → GoesOn v w (bits_of_bytes (take (length bytes) bytes)) new
goes_to_end v u w bytes i count number new is all one two =
    subst (λ (n : ℕ). GoesOn v w (bits_of_bytes (take n bytes)) new) all (goes_more v u w bytes i count number new is one two)

-- no word showed any
none_shown : (shown : Option WordEvents) → is_some shown ≡ false → shown_in shown ≡ []
none_shown None e = refl
none_shown (Some w) e = absurd (true≢false e)

-- what showed none
pub pieces_on : (v u : InspectorView) (bytes : List ℕ) (at : ℕ) (shown : Option WordEvents) → is_some shown ≡ false → GoesOn v u (bits_of_bytes (take at bytes)) (shown_in shown) → GoesOn v u (bits_of_bytes (take at bytes)) []
pieces_on v u bytes at shown none on = subst (λ (es : List LaneEvent). GoesOn v u (bits_of_bytes (take at bytes)) es) (none_shown shown none) on

pub none_if_not : (shown : Option WordEvents) → ((w : WordEvents) → shown ≡ Some w → ⊥) → shown_in shown ≡ []
none_if_not None e = refl
none_if_not (Some w) e = absurd (e w refl)

-- what holds then
pub where_none : (P : Type 0) (shown : Option WordEvents) → is_some shown ≡ false → IfNone shown P → P
where_none P None e h = h
where_none P (Some w) e h = absurd (true≢false e)

-- ---- the bytes before them show nothing

no_more : (one more rest : List LaneEvent) → one ≡ (one ++ more) ++ rest → more ≡ []
no_more one [] rest e = refl
no_more one (x ∷ more) rest e =
    let a = ap length e in
    let b = length-append (one ++ x ∷ more) rest in
    let c = length-append one (x ∷ more) in
    let d : length (x ∷ more) ≡ length more + 1 = omega arith in
    absurd (omega (arith, a, b, c, d))

-- fewer bits than some that show nothing
fewer_show_none : (v u : InspectorView) (few more : List Bool) → GoesOn v u (few ++ more) [] → ShowsNone v few
fewer_show_none v u few more on s bits events k are =
    let long = k.stands.link.metaframe.0 in
    let (here, here_are) = events_exist s (bits ++ few) in
    let (new, new_are) = earlier_events_stay s bits few events here (omega (arith, long)) are here_are in
    let all = subst (λ (es : List LaneEvent). AreLaneEvents s (bits ++ (few ++ more)) es) (append-nil events) (on.events s bits events k are) in
    let (rest, rest_are) = earlier_events_stay s (bits ++ few) more here events (omega (arith, long)) here_are (subst (λ (bs : List Bool). AreLaneEvents s bs events) (sym (append_assoc bits few more)) all) in
    let none : new ≡ [] = no_more events new rest (rest_are ∙ ap (λ es. es ++ rest) new_are) in
    subst (λ (es : List LaneEvent). AreLaneEvents s (bits ++ few) es) (new_are ∙ ap (λ es. events ++ es) none ∙ append-nil events) here_are

pub shows_none : (v u : InspectorView) (bytes : List ℕ) (n i : ℕ) → n ≤ i → GoesOn v u (bits_of_bytes (take i bytes)) [] → ShowsNone v (bits_of_bytes (take n bytes))
shows_none v u bytes n i le on =
    let e : n + (i - n) ≡ i = omega (arith, le) in
    fewer_show_none v u (bits_of_bytes (take n bytes)) (bits_of_bytes (take (i - n) (drop n bytes)))
    (subst (λ (bs : List Bool). GoesOn v u bs []) (ap (λ k. bits_of_bytes (take k bytes)) (sym e) ∙ bits_added bytes n (i - n)) on)
