-- Where no word is made, and where one is.
use Rattle.std.proofs.Common.{inl, inr, ◌∙◌, sym, ap, subst, ◌+◌, ◌≤◌, length, arith, eqb-true, eq-eqb}
use Rattle.std.proofs.lemmas.Bool.{false≢true}
use Rattle.live_stream.specs.Gives.{most_words}
use Rattle.live_lanes.specs.Lanes.{has_room}
use Rattle.live_end.specs.States.{State}
use Rattle.live_end.specs.Sending.{Sends}
use Rattle.live_end.proofs.transmitter.LiveTransmitter.rests.Goals as goal

pub returns-then-is_whole-clause-rests : goal.returns-then-is_whole-clause-rests
returns-then-is_whole-clause-rests c t =
    let v = c.self.inside in
    inr (inr (λ x k. inl (ap (λ (t : State). t.lanes.place) (sym c.self.view_is) ∙ eqb-true v.lanes.place 0 (sym c.is_whole.ensures ∙ c.if-is_whole.true), c.is_whole-whole.ensures.few x k t)))

pub returns-then-is_whole-clause-goes : goal.returns-then-is_whole-clause-goes
returns-then-is_whole-clause-goes c f = (
  ap (λ (t : State). t.lanes.ended) (sym c.self.view_is) ∙ sym c.has_ended.ensures ∙ c.if-has_ended.false,
  ap (λ (t : State). has_room t.lanes) (sym c.self.view_is) ∙ sym c.has_room-room.ensures ∙ c.if-not-room.false,
  λ x h.
      let k = subst (λ (t : State). Sends t x) (sym c.self.view_is) h in
      let at = c.slot.ensures x.given x.words k.gives in
      let low = c.if-slot.false in
      let few : length x.words + 64 ≤ most_words = omega (arith, at, low) in
      (few, λ place whole. absurd (false≢true (sym f ∙ (c.is_whole-whole.ensures.whole x h (omega (arith, few))).1 whole))),
)

pub returns-else-is_whole-clause-goes : goal.returns-else-is_whole-clause-goes
returns-else-is_whole-clause-goes c f =
    let v = c.self.inside in (
      ap (λ (t : State). t.lanes.ended) (sym c.self.view_is) ∙ sym c.has_ended.ensures ∙ c.if-has_ended.false,
      ap (λ (t : State). has_room t.lanes) (sym c.self.view_is) ∙ sym c.has_room-room.ensures ∙ c.if-not-room.false,
      λ x h.
          let k = subst (λ (t : State). Sends t x) (sym c.self.view_is) h in
          let at = c.slot.ensures x.given x.words k.gives in
          let low = c.if-slot.false in
          let few : length x.words + 64 ≤ most_words = omega (arith, at, low) in
          (few, λ place whole. absurd (false≢true (sym c.if-is_whole.false ∙ c.is_whole.ensures ∙ eq-eqb v.lanes.place 0 (ap (λ (t : State). t.lanes.place) c.self.view_is ∙ place)))),
    )
