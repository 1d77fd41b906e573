-- Each lane made a framing word.
use Rattle.std.proofs.Common.{◌∙◌, sym, ap, subst, List, ◌++◌, length, take, drop}
use Rattle.live_lanes.specs.States.{Lane, Lanes, lanes_of}
use Rattle.live_lanes.specs.Lanes.{AreEach, AreLonger, MakesFraming}
use Rattle.live_lanes.specs.Standing.{Stands, framed}
use Rattle.live_lanes.proofs.Stepping.{are_longer, framed_here, written}
use Rattle.live_lanes.proofs.live.LiveLanes.frame.Goals as goal

pub invariant_of-self : goal.invariant_of-self
invariant_of-self c =
    let v = c.self.inside in
    let later = c.frame_each.new.lanes in
    let next = c.next_place-self-inside.result in
    let whole = written v.lanes.len later v.lanes.items (c.frame_each.auto.lanes ∙ c.deref_mut.ensures.len) in
    let made = subst (λ (ls : List Lane). AreEach (λ i. MakesFraming) ls later) c.deref_mut.ensures.value c.frame_each.ensures in
    let going = ap (λ (w : Lanes). w.ended) c.self.view_is ∙ c.requires.going in
    let (p, k) = c.self.invariant in (
      framed p,
      subst (λ (ls : List Lane). Stands (lanes_of v.link ls next v.ended) (framed p)) (sym whole) (framed_here v.link v.lanes.items later v.place next v.ended p going k made c.next_place-self-inside.ensures),
    )

pub returns-clause-stands : goal.returns-clause-stands
returns-clause-stands c p k =
    let v = c.self.inside in
    let later = c.frame_each.new.lanes in
    let next = c.next_place-self-inside.result in
    let whole = written v.lanes.len later v.lanes.items (c.frame_each.auto.lanes ∙ c.deref_mut.ensures.len) in
    let made = subst (λ (ls : List Lane). AreEach (λ i. MakesFraming) ls later) c.deref_mut.ensures.value c.frame_each.ensures in
    let going = ap (λ (w : Lanes). w.ended) c.self.view_is ∙ c.requires.going in
    subst (λ (ls : List Lane). Stands (lanes_of v.link ls next v.ended) (framed p)) (sym whole)
    (framed_here v.link v.lanes.items later v.place next v.ended p going (subst (λ (w : Lanes). Stands w p) (sym c.self.view_is) k) made c.next_place-self-inside.ensures)

pub returns-clause-longer : goal.returns-clause-longer
returns-clause-longer c =
    let v = c.self.inside in
    let later = c.frame_each.new.lanes in
    let next = c.next_place-self-inside.result in
    let whole = written v.lanes.len later v.lanes.items (c.frame_each.auto.lanes ∙ c.deref_mut.ensures.len) in
    let made = subst (λ (ls : List Lane). AreEach (λ i. MakesFraming) ls later) c.deref_mut.ensures.value c.frame_each.ensures in
    let now : List Lane = take v.lanes.len (later ++ drop (length later) v.lanes.items) in
    subst (λ (w : Lanes). AreLonger w (lanes_of v.link now next v.ended)) c.self.view_is
    (subst (λ (ls : List Lane). AreLonger (lanes_of v.link v.lanes.items v.place v.ended) (lanes_of v.link ls next v.ended)) (sym whole) (are_longer v.link v.lanes.items later v.place next v.ended v.ended (λ i given. given) made))
