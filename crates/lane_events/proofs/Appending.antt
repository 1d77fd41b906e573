-- The events of some bytes are found one piece after another.
use Rattle.std.proofs.Common.{ℕ, ◌≡◌, refl, sym, ap, ◌∙◌, subst, ◌+◌, ◌≤◌, ◌==◌, Bool, true, false, List, [], ◌∷◌, ◌++◌, length, map, take, drop, arith, append_assoc, eqb-true, true≢false}
use Rattle.std.proofs.Math.Seq.{take-add}
use Rattle.std.proofs.lemmas.List.{append-nil, length-append, length-map, take_all}
use Rattle.std.proofs.lemmas.List.Concat.{flat_map-append}
use Rattle.lk_base.specs.Checksum.{bits_of, bits_of_bytes}
use Rattle.lane_events.specs.declared.types.EventKind.{EventKind}
use Rattle.lane_events.specs.declared.types.LaneEvent.{LaneEvent}
use Rattle.lane_events.specs.declared.word_events.WordEvents.{WordEvents}
use Rattle.lane_events.specs.Events.{AreLaneEvents}
use Rattle.lane_events.specs.Inspection.{Finds, GoesOn, Inspects, InspectorView, events_in}
use Rattle.lane_events.specs.Steps.{event_of}

-- at most twelve kinds give at most twelve events
pub few_appended : (bit : ℕ) (ks : List EventKind) (old new : List LaneEvent) → length ks ≤ 12 → new ≡ old ++ map (event_of bit) ks → length new ≤ length old + 12
few_appended bit ks old new few e =
    let f = length-map ks (event_of bit) in
    let l = length-append old (map (event_of bit) ks) in
    let g = ap length e in
    omega (arith, few, f, l, g)

-- a word without kinds has no event, and one with some has some
none_in : (bit : ℕ) (ks : List EventKind) → (length ks == 0) ≡ true → map (event_of bit) ks ≡ []
none_in bit [] e = refl
none_in bit (k ∷ ks) e = let l : length (k ∷ ks) ≡ length ks + 1 = omega arith in absurd (omega (arith, l, eqb-true (length (k ∷ ks)) 0 e))

some_in : (bit : ℕ) (ks : List EventKind) → (length ks == 0) ≡ false → map (event_of bit) ks ≡ [] → ⊥
some_in bit [] e h = true≢false e
some_in bit (k ∷ ks) e h = cc

pub none_of : (w : WordEvents) → (length w.kinds.items == 0) ≡ true → events_in w ≡ []
none_of w e = none_in w.bit w.kinds.items e

pub some_of : (w : WordEvents) → (length w.kinds.items == 0) ≡ false → events_in w ≡ [] → ⊥
some_of w e = some_in w.bit w.kinds.items e

-- before the first byte
pub found_none : (v : InspectorView) (bytes : List ℕ) (before : List LaneEvent) → Finds v v (bits_of_bytes (take 0 bytes)) before before
found_none v bytes before s bits given k are =
    let nil = append-nil bits in
    (subst (λ (bs : List Bool). Inspects v s bs) (sym nil) k, subst (λ (bs : List Bool). AreLaneEvents s bs (given ++ before)) (sym nil) are)

-- what goes on over some bits more finds the events that it appends
pub finds_of : (v w : InspectorView) (more : List Bool) (new before after : List LaneEvent) → GoesOn v w more new → after ≡ before ++ new → Finds v w more before after
finds_of v w more new before after on e s bits given k are = (
  on.inspects s bits k,
  subst (λ (es : List LaneEvent). AreLaneEvents s (bits ++ more) es) (append_assoc given before new ∙ ap (λ es. given ++ es) (sym e)) (on.events s bits (given ++ before) k are),
)

-- the next bytes more
pub found_more : (v u w : InspectorView) (bytes : List ℕ) (i count : ℕ) (before now after : List LaneEvent) → Finds v u (bits_of_bytes (take i bytes)) before now →
    Finds u w (bits_of_bytes (take count (drop i bytes))) now after → Finds v w (bits_of_bytes (take (i + count) bytes)) before after
found_more v u w bytes i count before now after finds further s bits given k are =
    let cut : bits ++ bits_of_bytes (take (i + count) bytes) ≡ (bits ++ bits_of_bytes (take i bytes)) ++ bits_of_bytes (take count (drop i bytes)) =
    ap (λ bs. bits ++ bits_of_bytes bs) (take-add i count bytes) ∙ ap (λ bs. bits ++ bs) (flat_map-append (bits_of 8) (take i bytes) (take count (drop i bytes)))
    ∙ sym (append_assoc bits (bits_of_bytes (take i bytes)) (bits_of_bytes (take count (drop i bytes)))) in
    let front = finds s bits given k are in
    let back = further s (bits ++ bits_of_bytes (take i bytes)) given front.0 front.1 in (
      subst (λ (bs : List Bool). Inspects w s bs) (sym cut) back.0,
      subst (λ (bs : List Bool). AreLaneEvents s bs (given ++ after)) (sym cut) back.1,
    )

-- all bytes
pub found_all : (v w : InspectorView) (bytes : List ℕ) (i : ℕ) (before after : List LaneEvent) → length bytes ≤ i → Finds v w (bits_of_bytes (take i bytes)) before after →
    Finds v w (bits_of_bytes bytes) before after
found_all v w bytes i before after le finds = subst (λ (bs : List ℕ). Finds v w (bits_of_bytes bs) before after) (take_all i bytes le) finds
