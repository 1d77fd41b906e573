use Rattle.std.proofs.Common.{◌≡◌, ◌∙◌, ◌≤◌, inl, inr, ℕ, false, nat_lt, refl, sym, subst, arith}
use Rattle.std.proofs.lemmas.Bool.{ltb-true}
use Rattle.std.proofs.lemmas.Bool.Decides.{nat_tests}
use Rattle.calendar.specs.Changes.{told_back}
use Rattle.live_stream.specs.Turns.{IsFirstReady}
use Rattle.live_stream.specs.Gives.{IsIdleTime}
use Rattle.live_stream.specs.declared.scheduler.LiveScheduler.{LiveScheduler}
use Rattle.live_stream.proofs.Ends.{IsSettled, control_step}
use Rattle.live_stream.proofs.Steps.{none_to_come, settle_holds}
use Rattle.live_stream.proofs.scheduler.LiveScheduler.control.Goals as goal
use Rattle.live_stream.proofs.scheduler.LiveScheduler.control.Goals.{then-self, else-self}

not_below : (m n : ℕ) → nat_lt m n ≡ false → n ≤ m
not_below m n e = grind (arith, nat_tests)

pub idle-requires-clause-words : goal.idle-requires-clause-words
idle-requires-clause-words c = let r = c.requires.gives in (r.0, r.1, settle_holds c.args.self.now c.ending-self.result r.0 r.1 r.2.words)

pub idle-requires-in-None-clause-words : goal.idle-requires-in-None-clause-words
idle-requires-in-None-clause-words c = let r = c.requires.gives in (r.0, r.1, settle_holds c.args.self.now c.ending-self.result r.0 r.1 r.2.words)

pub burst-requires-clause-words : goal.burst-requires-clause-words
burst-requires-clause-words c =
    let s : LiveScheduler = c.args.self.now in
    let r = c.requires.gives in
    let first = c.first_ready-ready.ensures r.0.entries r.0.flow r.2.words.incoming in
    let here = subst (λ ts. IsFirstReady (told_back r.0.entries r.0.flow) ts c.first_ready-ready.result) c.deref.ensures.value first in
    let far : (s.warm ≤ s.slot) × (s.free ≤ s.slot) = elim c.if-self.branch [
      | then-self v ↦ absurd (let late = not_below s.slot s.warm (sym v.waits-is ∙ c.if-waits.false) in let early = v.if-self.true in omega (arith, late, early))
      | else-self v ↦ (v.if-self.false, not_below s.slot s.free (sym v.waits-is ∙ c.if-waits.false))
    ] in
    (r.0, r.1, settle_holds s c.ending-self.result r.0 r.1 r.2.words, record { warm = far.0; free = far.1; first = subst (IsFirstReady (told_back r.0.entries r.0.flow) s.turns.items) c.in-Some.is here })

pub returns-then-waits : goal.returns-then-waits
returns-then-waits c g w h going =
    let s : LiveScheduler = c.args.self.now in
    let none = none_to_come s w c.requires.due.given in
    let first = c.first_ready-ready.ensures g.entries g.flow h.words.incoming in
    let here = subst (λ ts. IsFirstReady (told_back g.entries g.flow) ts c.first_ready-ready.result) c.deref.ensures.value first in
    let e = c.ending-self.ensures in
    let settled : IsSettled s c.first_ready-ready.result c.ending-self.result = record { found = e.found; still = e.still; early = e.early; ready = e.ready; before = e.before } in
    let time : IsIdleTime s (told_back g.entries g.flow) = elim c.if-self.branch [
      | then-self v ↦ inl v.if-self.true
      | else-self v ↦ inr (inl (ltb-true s.slot s.free (sym v.waits-is ∙ c.if-waits.true)))
    ] in
    control_step s _ c.idle.new.self g w c.idle.result h none going c.first_ready-ready.result c.ending-self.result settled here refl refl refl refl (c.idle.ensures g w (settle_holds s c.ending-self.result g w h.words) time)

pub returns-in-None : goal.returns-in-None
returns-in-None c g w h going =
    let s : LiveScheduler = c.args.self.now in
    let none = none_to_come s w c.requires.due.given in
    let first = c.first_ready-ready.ensures g.entries g.flow h.words.incoming in
    let here = subst (λ ts. IsFirstReady (told_back g.entries g.flow) ts c.first_ready-ready.result) c.deref.ensures.value first in
    let e = c.ending-self.ensures in
    let settled : IsSettled s c.first_ready-ready.result c.ending-self.result = record { found = e.found; still = e.still; early = e.early; ready = e.ready; before = e.before } in
    let time : IsIdleTime s (told_back g.entries g.flow) = inr (inr (subst (IsFirstReady (told_back g.entries g.flow) s.turns.items) c.in-None.is here)) in
    control_step s _ c.idle-in-None.new.self g w c.idle-in-None.result h none going c.first_ready-ready.result c.ending-self.result settled here refl refl refl refl (c.idle-in-None.ensures g w (settle_holds s c.ending-self.result g w h.words) time)

pub returns-else-waits : goal.returns-else-waits
returns-else-waits c g w h going =
    let s : LiveScheduler = c.args.self.now in
    let none = none_to_come s w c.requires.due.given in
    let first = c.first_ready-ready.ensures g.entries g.flow h.words.incoming in
    let here = subst (λ ts. IsFirstReady (told_back g.entries g.flow) ts c.first_ready-ready.result) c.deref.ensures.value first in
    let e = c.ending-self.ensures in
    let settled : IsSettled s c.first_ready-ready.result c.ending-self.result = record { found = e.found; still = e.still; early = e.early; ready = e.ready; before = e.before } in
    let far : (s.warm ≤ s.slot) × (s.free ≤ s.slot) = elim c.if-self.branch [
      | then-self v ↦ absurd (let late = not_below s.slot s.warm (sym v.waits-is ∙ c.if-waits.false) in let early = v.if-self.true in omega (arith, late, early))
      | else-self v ↦ (v.if-self.false, not_below s.slot s.free (sym v.waits-is ∙ c.if-waits.false))
    ] in
    control_step s _ c.burst.new.self g w c.burst.result h none going c.first_ready-ready.result c.ending-self.result settled here refl refl refl refl
    (c.burst.ensures g w (settle_holds s c.ending-self.result g w h.words) (record { warm = far.0; free = far.1; first = subst (IsFirstReady (told_back g.entries g.flow) s.turns.items) c.in-Some.is here }))
