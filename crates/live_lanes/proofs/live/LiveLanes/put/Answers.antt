-- Each lane made its payload word.
use Rattle.std.proofs.Common.{◌∙◌, sym, ap, subst, List, [], ◌∷◌, ◌++◌, length, take, drop, get_or}
use Rattle.lk_base.specs.declared.word.Word.TheVariants.{Data}
use Rattle.live_lanes.specs.States.{Lane, Lanes, lanes_of}
use Rattle.live_lanes.specs.Lanes.{AreEach, AreLonger, MakesPayload}
use Rattle.live_lanes.specs.Standing.{Stands, with_row}
use Rattle.live_lanes.proofs.Stepping.{are_longer, put_here, written}
use Rattle.live_lanes.proofs.live.LiveLanes.put.Goals as goal

pub invariant_of-self : goal.invariant_of-self
invariant_of-self c =
    let v = c.self.inside in
    let later = c.put_each.new.lanes in
    let next = c.next_place-self-inside.result in
    let whole = written v.lanes.len later v.lanes.items (c.put_each.auto.lanes ∙ c.deref_mut.ensures.len) in
    let made = subst (λ (ls : List Lane). AreEach (λ i. MakesPayload (get_or c.args.words.now i (Data 0))) ls later) c.deref_mut.ensures.value c.put_each.ensures in
    let count = c.requires.count ∙ ap (λ (w : Lanes). length w.lanes) (sym c.self.view_is) in
    let going = ap (λ (w : Lanes). w.ended) c.self.view_is ∙ c.requires.going in
    let (p, k) = c.self.invariant in (
      with_row c.args.words.now p,
      subst (λ (ls : List Lane). Stands (lanes_of v.link ls next v.ended) (with_row c.args.words.now p)) (sym whole) (put_here v.link v.lanes.items later v.place next v.ended p c.args.words.now going k count made c.next_place-self-inside.ensures),
    )

pub returns-clause-stands : goal.returns-clause-stands
returns-clause-stands c p k =
    let v = c.self.inside in
    let later = c.put_each.new.lanes in
    let next = c.next_place-self-inside.result in
    let whole = written v.lanes.len later v.lanes.items (c.put_each.auto.lanes ∙ c.deref_mut.ensures.len) in
    let made = subst (λ (ls : List Lane). AreEach (λ i. MakesPayload (get_or c.args.words.now i (Data 0))) ls later) c.deref_mut.ensures.value c.put_each.ensures in
    let count = c.requires.count ∙ ap (λ (w : Lanes). length w.lanes) (sym c.self.view_is) in
    let going = ap (λ (w : Lanes). w.ended) c.self.view_is ∙ c.requires.going in
    subst (λ (ls : List Lane). Stands (lanes_of v.link ls next v.ended) (with_row c.args.words.now p)) (sym whole)
    (put_here v.link v.lanes.items later v.place next v.ended p c.args.words.now going (subst (λ (w : Lanes). Stands w p) (sym c.self.view_is) k) count made c.next_place-self-inside.ensures)

pub returns-clause-longer : goal.returns-clause-longer
returns-clause-longer c =
    let v = c.self.inside in
    let later = c.put_each.new.lanes in
    let next = c.next_place-self-inside.result in
    let whole = written v.lanes.len later v.lanes.items (c.put_each.auto.lanes ∙ c.deref_mut.ensures.len) in
    let made = subst (λ (ls : List Lane). AreEach (λ i. MakesPayload (get_or c.args.words.now i (Data 0))) ls later) c.deref_mut.ensures.value c.put_each.ensures in
    let now : List Lane = take v.lanes.len (later ++ drop (length later) v.lanes.items) in
    subst (λ (w : Lanes). AreLonger w (lanes_of v.link now next v.ended)) c.self.view_is
    (subst (λ (ls : List Lane). AreLonger (lanes_of v.link v.lanes.items v.place v.ended) (lanes_of v.link ls next v.ended)) (sym whole) (are_longer v.link v.lanes.items later v.place next v.ended v.ended (λ i given. given ++ get_or c.args.words.now i (Data 0) ∷ []) made))
