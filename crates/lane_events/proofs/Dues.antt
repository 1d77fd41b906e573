-- The events that are due, one after another.
use Rattle.std.proofs.Common.{ℕ, zero, suc, get_or, ◌≡◌, refl, ap, ◌∙◌, ◌<◌, ◌≤◌, ◌==◌, ◌+◌, ◌-◌, List, [], ◌∷◌, length, map, drop, arith}
use Rattle.std.proofs.lemmas.Bool.Decides.{nat_tests}
use Rattle.std.proofs.lemmas.List.{length-drop, length-map}
use Rattle.lane_events.specs.declared.types.EventKind.{EventKind}
use Rattle.lane_events.specs.declared.types.LaneEvent.{LaneEvent}
use Rattle.lane_events.specs.declared.word_events.WordEvents.{WordEvents}
use Rattle.lane_events.specs.Inspection.{due_from}
use Rattle.lane_events.specs.Steps.{event_of}

-- the kinds from a place on begin with the one at that place
drop_by : (ks : List EventKind) (n : ℕ) (d : EventKind) → n < length ks → drop n ks ≡ get_or ks n d ∷ drop (suc n) ks
drop_by [] n d lt = absurd (omega (arith, lt))
drop_by (k ∷ ks) zero d lt = refl
drop_by (k ∷ ks) (suc n) d lt = let e : length (k ∷ ks) ≡ length ks + 1 = omega arith in drop_by ks n d (omega (arith, lt, e))

drop_at : (ks : List EventKind) (n : ℕ) (d : EventKind) → n < length ks → drop n ks ≡ get_or ks n d ∷ drop (n + 1) ks
drop_at ks n d lt = let e : suc n ≡ n + 1 = omega arith in drop_by ks n d lt ∙ ap (λ m. get_or ks n d ∷ drop m ks) e

-- the event of the kind at this place is first
pub due_here : (w : WordEvents) (n : ℕ) (d : EventKind) → n < length w.kinds.items → due_from w n ≡ event_of w.bit (get_or w.kinds.items n d) ∷ due_from w (n + 1)
due_here w n d lt = ap (λ (ks : List EventKind). map (event_of w.bit) ks) (drop_at w.kinds.items n d lt)

-- how many are due
left : (w : WordEvents) (n : ℕ) → length (due_from w n) ≡ length w.kinds.items - n
left w n = length-map (drop n w.kinds.items) (event_of w.bit) ∙ length-drop n w.kinds.items

-- none is due where all were given, and only there
pub all_given : (w : WordEvents) (n : ℕ) → n ≤ length w.kinds.items → (n == length w.kinds.items) ≡ (length (due_from w n) == 0)
all_given w n le = let l = left w n in grind (arith, nat_tests)

pub none_due : (w : WordEvents) (n : ℕ) → n ≡ length w.kinds.items → due_from w n ≡ []
none_due w n e = let l = left w n in empty (due_from w n) (omega (arith, l, e))
  where
    empty : (es : List LaneEvent) → length es ≡ 0 → es ≡ []
    empty [] h = refl
    empty (x ∷ es) h = let l : length (x ∷ es) ≡ length es + 1 = omega arith in absurd (omega (arith, l, h))
