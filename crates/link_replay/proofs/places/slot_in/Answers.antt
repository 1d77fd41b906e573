-- By its index.
use Rattle.std.proofs.Common.{ℕ, ◌≡◌, ◌<◌, ◌+◌, subst, Option, arith}
use Rattle.link_replay.specs.Places.{IsGroupSlot, place_of}
use Rattle.link_replay.proofs.Slots.{slot_none, slot_some}
use Rattle.link_replay.proofs.places.slot_in.Goals as goal

pub returns-in-Some-clause-slot : goal.returns-in-Some-clause-slot
returns-in-Some-clause-slot c = λ s skew count at link size index whole g. (
    let lt = c.if-index-size.false in
    let first = c.in-Some.first in
    subst (λ i. (first + i < count) × (at ≡ place_of s skew (first + i))) index
    (slot_some s skew count first at (omega (arith, lt, size, index)) (subst (λ (o : Option ℕ). IsGroupSlot s count skew at.group o) c.in-Some.is g)))

pub returns-in-None-clause-slot : goal.returns-in-None-clause-slot
returns-in-None-clause-slot c = λ s skew count at link size index whole g. slot_none s skew count at link whole (subst (λ (o : Option ℕ). IsGroupSlot s count skew at.group o) c.in-None.is g)
