-- Bytes of a lane are taken.
use Rattle.std.proofs.Common.{ℕ, ◌≡◌, refl, sym, ap, ◌∙◌, subst, ◌+◌, ◌<◌, ◌≤◌, Bool, true, false, List, [], ◌∷◌, ◌++◌, length, take, arith, Option, Some, None, IfSome, IfNone, ◌==◌, not, ne_eqb}
use Rattle.std.specs.Prelude.{◌^◌, ◌&&◌, is_some, nat_lt, if◌then◌else◌}
use Rattle.std.proofs.Common.{true≢false}
use Rattle.std.proofs.lemmas.Bool.Decides.{nat_tests}
use Rattle.std.proofs.lemmas.List.{append-nil, length-append, length-take-le}
use Rattle.std.proofs.lemmas.List.Concat.{flat_map-append}
use Rattle.lk_base.specs.Checksum.{bits_of, bits_of_bytes}
use Rattle.lk_base.specs.Link.{Settings}
use Rattle.lane_events.specs.declared.types.LaneEvent.{LaneEvent}
use Rattle.lane_events.specs.declared.word_events.WordEvents.{WordEvents}
use Rattle.lane_events.specs.Events.{AreLaneEvents}
use Rattle.lane_events.specs.Inspection.{GoesOn, Inspects, InspectorView, ShowsNone, events_in, shown_in}
use Rattle.live_inspector.specs.Lanes.{IsFresh, Lane, Stands, Takes, Told, feed_misuse, took}
use Rattle.live_inspector.specs.declared.misuse.Misuse.TheVariants as misuses

-- ---- a lane that takes a piece

parts : (over few short : Bool) → (if over then Some misuses.Finished else (if few && short then None else Some misuses.TooMany)) ≡ None → (few ≡ true) × (short ≡ true)
parts true few short h = absurd (true≢false (ap is_some h))
parts false true true h = (refl, refl)
parts false true false h = absurd (true≢false (ap is_some h))
parts false false short h = absurd (true≢false (ap is_some h))

-- has few bytes, and the piece is short
pub both_few : (l : Lane) (count : ℕ) → feed_misuse l count ≡ None → (l.taken < 2 ^ 40) × (count < 2 ^ 40)
both_few l count h =
    let both = parts l.finished (nat_lt l.taken (2 ^ 40)) (nat_lt count (2 ^ 40)) h in
    let few = both.0 in
    let short = both.1 in
    (grind (arith, nat_tests), grind (arith, nat_tests))

-- ---- nothing was taken

pub fresh : (s : Settings) (w : InspectorView) (due : List LaneEvent) → Inspects w s [] → due ≡ [] → AreLaneEvents s [] [] → IsFresh s (record { inspector = w; taken = 0; due = due; finished = false })
fresh s w due k e are = (record { inspects = k; count = refl; events = subst (λ (es : List LaneEvent). AreLaneEvents s [] es) (sym e) are }, refl)

-- ---- some are taken

-- no event is due
pub none_due : (es : List LaneEvent) (due : Bool) → due ≡ not (length es == 0) → due ≡ false → es ≡ []
none_due [] due e f = refl
none_due (x ∷ es) due e f =
    let l : length (x ∷ es) ≡ length es + 1 = omega arith in
    let some : (length (x ∷ es) == 0) ≡ false = ne_eqb (length (x ∷ es)) 0 (λ z. omega (arith, z, l)) in
    absurd (true≢false (sym (ap not some) ∙ sym e ∙ f))

bits_append : (front back : List ℕ) → bits_of_bytes (front ++ back) ≡ bits_of_bytes front ++ bits_of_bytes back
bits_append front back = flat_map-append (bits_of 8) front back

-- a word showed events, or none did and all bytes were taken
none_left : (shown : Option WordEvents) (n all : ℕ) → IfSome shown (λ events. events_in events ≡ [] → ⊥) → IfNone shown (n ≡ all) → shown_in shown ≡ [] → n ≡ all
none_left None n all some none e = none
none_left (Some w) n all some none e = absurd (some e)

module _ (l : Lane) (w : InspectorView) (piece : List ℕ) (n : ℕ) (shown : Option WordEvents) (m : Lane) (m_is : m ≡ record { inspector = w; taken = l.taken + n; due = shown_in shown; finished = l.finished })
    (none : l.due ≡ []) (within : n ≤ length piece) (on : GoesOn l.inspector w (bits_of_bytes (take n piece)) (shown_in shown)) where
  more : (s : Settings) (t : Told) → Stands s l t → Stands s (record { inspector = w; taken = l.taken + n; due = shown_in shown; finished = l.finished }) (took (take n piece) t)
  more s t k =
      let bits : bits_of_bytes (t.bytes ++ take n piece) ≡ bits_of_bytes t.bytes ++ bits_of_bytes (take n piece) = bits_append t.bytes (take n piece) in
      let so_far : AreLaneEvents s (bits_of_bytes t.bytes) t.given =
      subst (λ (es : List LaneEvent). AreLaneEvents s (bits_of_bytes t.bytes) es) (ap (λ (es : List LaneEvent). t.given ++ es) none ∙ append-nil t.given) k.events in
      let a = length-append t.bytes (take n piece) in
      let b = length-take-le n piece within in
      let c = k.count in
      record {
        inspects = subst (λ (bs : List Bool). Inspects w s bs) (sym bits) (on.inspects s (bits_of_bytes t.bytes) k.inspects);
        count = omega (arith, a, b, c);
        events = subst (λ (bs : List Bool). AreLaneEvents s bs (t.given ++ shown_in shown)) (sym bits) (on.events s (bits_of_bytes t.bytes) t.given k.inspects so_far);
      }

  pub takes_more : IfSome shown (λ events. events_in events ≡ [] → ⊥) → IfNone shown (n ≡ length piece) → ((k : ℕ) → k + 7 ≤ n → ShowsNone l.inspector (bits_of_bytes (take k piece))) → Takes l m piece n
  takes_more some all soon = subst (λ (x : Lane). Takes l x piece n) (sym m_is) (record {
    within = within;
    waits = λ h. absurd (h none);
    all = λ e f. none_left shown n (length piece) some all f;
    soon = λ k le s t h. subst (λ (bs : List Bool). AreLaneEvents s bs (t.given ++ l.due)) (sym (bits_append t.bytes (take k piece))) (soon k le s (bits_of_bytes t.bytes) (t.given ++ l.due) h.inspects h.events);
    stands = more;
    count = refl;
    finished = refl;
  })
