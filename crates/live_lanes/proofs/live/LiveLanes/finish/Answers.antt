-- Each lane made its last byte.
use Rattle.std.proofs.Common.{◌∙◌, sym, ap, subst, true, List, ◌++◌, length, take, drop}
use Rattle.live_lanes.specs.States.{Lane, Lanes, lanes_of}
use Rattle.live_lanes.specs.Lanes.{AreEach, AreKept, MakesEnd}
use Rattle.live_lanes.specs.Standing.{Stands}
use Rattle.live_lanes.proofs.Stepping.{are_kept, end_here, written}
use Rattle.live_lanes.proofs.live.LiveLanes.finish.Goals as goal

pub invariant_of-self : goal.invariant_of-self
invariant_of-self c =
    let v = c.self.inside in
    let later = c.finish_each.new.lanes in
    let written_are = written v.lanes.len later v.lanes.items (c.finish_each.auto.lanes ∙ c.deref_mut.ensures.len) in
    let made = subst (λ (ls : List Lane). AreEach (λ i. MakesEnd) ls later) c.deref_mut.ensures.value c.finish_each.ensures in
    let going = ap (λ (w : Lanes). w.ended) c.self.view_is ∙ c.requires.going in
    let whole = ap (λ (w : Lanes). w.place) c.self.view_is ∙ c.requires.whole in
    let (p, k) = c.self.invariant in
    (p, subst (λ (ls : List Lane). Stands (lanes_of v.link ls v.place true) p) (sym written_are) (end_here v.link v.lanes.items later v.place v.ended p going k whole made))

pub returns-clause-stands : goal.returns-clause-stands
returns-clause-stands c p k =
    let v = c.self.inside in
    let later = c.finish_each.new.lanes in
    let written_are = written v.lanes.len later v.lanes.items (c.finish_each.auto.lanes ∙ c.deref_mut.ensures.len) in
    let made = subst (λ (ls : List Lane). AreEach (λ i. MakesEnd) ls later) c.deref_mut.ensures.value c.finish_each.ensures in
    let going = ap (λ (w : Lanes). w.ended) c.self.view_is ∙ c.requires.going in
    let whole = ap (λ (w : Lanes). w.place) c.self.view_is ∙ c.requires.whole in
    subst (λ (ls : List Lane). Stands (lanes_of v.link ls v.place true) p) (sym written_are)
    (end_here v.link v.lanes.items later v.place v.ended p going (subst (λ (w : Lanes). Stands w p) (sym c.self.view_is) k) whole made)

pub returns-clause-kept : goal.returns-clause-kept
returns-clause-kept c =
    let v = c.self.inside in
    let later = c.finish_each.new.lanes in
    let written_are = written v.lanes.len later v.lanes.items (c.finish_each.auto.lanes ∙ c.deref_mut.ensures.len) in
    let made = subst (λ (ls : List Lane). AreEach (λ i. MakesEnd) ls later) c.deref_mut.ensures.value c.finish_each.ensures in
    let now : List Lane = take v.lanes.len (later ++ drop (length later) v.lanes.items) in
    subst (λ (w : Lanes). AreKept w (lanes_of v.link now v.place true)) c.self.view_is
    (subst (λ (ls : List Lane). AreKept (lanes_of v.link v.lanes.items v.place v.ended) (lanes_of v.link ls v.place true)) (sym written_are) (are_kept v.link v.lanes.items later v.place v.place v.ended true made))
