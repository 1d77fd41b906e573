-- The lanes end with the stream.
use Rattle.std.proofs.Common.{inl, inr, ◌∙◌, sym, ap, subst, length, arith, eq-eqb}
use Rattle.live_end.specs.States.{State}
use Rattle.live_end.specs.Sending.{Sends, progress_of}
use Rattle.std.proofs.lemmas.Bool.{cases_lt, false≢true}
use Rattle.live_stream.specs.Gives.{most_words}
use Rattle.live_lanes.specs.Lanes.{has_room}
use Rattle.live_end.proofs.Going.{end_sends, rests_still}
use Rattle.live_end.proofs.transmitter.LiveTransmitter.close.Goals.{else-not-has_ended-via-then-not-has_ended+then-is_whole+then-whole+else-room, else-not-has_ended-via-then-not-has_ended+then-is_whole+else-whole, else-not-has_ended-via-then-not-has_ended+else-is_whole, else-not-has_ended-via-else-not-has_ended}
use Rattle.live_end.proofs.transmitter.LiveTransmitter.close.Goals as goal

pub invariant_of-self : goal.invariant_of-self
invariant_of-self c =
    let v = c.self.inside in
    let (x, k) = c.self.invariant in
    (x, end_sends v.scheduler v.lanes v.row.items x k c.finish.new.self (c.finish.ensures.stands (progress_of x) k.stands) (c.is_whole-whole.ensures.few x (subst (λ (t : State). Sends t x) c.self.view_is k) c.if-whole.true))

pub returns-then-room-clause-sends : goal.returns-then-room-clause-sends
returns-then-room-clause-sends c x h =
    let v = c.self.inside in
    let k = subst (λ (t : State). Sends t x) (sym c.self.view_is) h in
    end_sends v.scheduler v.lanes v.row.items x k c.finish.new.self (c.finish.ensures.stands (progress_of x) k.stands) (c.is_whole-whole.ensures.few x h c.if-whole.true)

pub returns-else-not-has_ended-clause-still : goal.returns-else-not-has_ended-clause-still
returns-else-not-has_ended-clause-still c rests =
    let v = c.self.inside in
    let now = c.args.self.now in
    elim c.else-not-has_ended.branch [
      | else-not-has_ended-via-then-not-has_ended+then-is_whole+then-whole+else-room w ↦ inr (inl (ap (λ (t : State). has_room t.lanes) (sym c.self.view_is) ∙ sym c.has_room-room.ensures ∙ w.if-room.false))
      | else-not-has_ended-via-then-not-has_ended+then-is_whole+else-whole w ↦ rests_still now rests (λ x k at whole. elim (cases_lt (length x.words) most_words) [
        | inl few ↦ absurd (false≢true (sym w.if-whole.false ∙ (c.is_whole-whole.ensures.whole x k few).1 whole))
        | inr many ↦ omega (arith, many)
      ])
      | else-not-has_ended-via-then-not-has_ended+else-is_whole w ↦ rests_still now rests (λ x k at whole. absurd (false≢true (sym w.if-is_whole.false ∙ w.is_whole.ensures ∙ eq-eqb v.lanes.place 0 (ap (λ (t : State). t.lanes.place) c.self.view_is ∙ at))))
      | else-not-has_ended-via-else-not-has_ended w ↦ inl (ap (λ (t : State). t.lanes.ended) (sym c.self.view_is) ∙ sym c.has_ended.ensures ∙ w.if-not-has_ended.false)
    ]
