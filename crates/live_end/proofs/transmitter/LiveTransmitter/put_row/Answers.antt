-- Each lane made its payload word.
use Rattle.std.proofs.Common.{◌≡◌, ◌∙◌, sym, ap, subst, List, length}
use Rattle.std.specs.Vec.{with_items}
use Rattle.std.proofs.lemmas.List.{with_items_is}
use Rattle.lk_base.specs.declared.word.Word.{Word}
use Rattle.live_lanes.specs.Lanes.{wants_payload}
use Rattle.live_lanes.specs.Standing.{Stands, with_row}
use Rattle.live_end.specs.States.{State, state}
use Rattle.live_end.specs.Calls.{GoesOn}
use Rattle.live_end.specs.Sending.{Sends, progress_of, with_columns}
use Rattle.live_end.proofs.Going.{put_sends, row_goes}
use Rattle.live_end.proofs.transmitter.LiveTransmitter.put_row.Goals as goal

pub next_row-requires : goal.next_row-requires
next_row-requires c =
    let v = c.self.inside in
    let (x, k) = c.self.invariant in
    let wants = ap (λ (t : State). wants_payload t.lanes) c.self.view_is ∙ c.requires.wants in
    let few = c.requires.few x (subst (λ (t : State). Sends t x) c.self.view_is k) in
    (x.given, x.words, k.gives, subst (λ (row : List Word). GoesOn (length row) x.given x.words) (sym c.deref_mut.ensures.value) (row_goes v.scheduler v.lanes v.row.items x k wants few))

pub invariant_of-self : goal.invariant_of-self
invariant_of-self c =
    let v = c.self.inside in
    let (x, k) = c.self.invariant in
    let new = c.next_row.new.row in
    let wants = ap (λ (t : State). wants_payload t.lanes) c.self.view_is ∙ c.requires.wants in
    let whole : (with_items v.row new).items ≡ new = with_items_is v.row new (c.next_row.ensures.long ∙ c.deref_mut.ensures.len) in
    let q = subst (λ (row : List Word). Stands c.put.new.self (with_row row (progress_of x))) (c.deref.ensures.value ∙ whole) (c.put.ensures.stands (progress_of x) k.stands) in (
      with_columns 1 new x,
      subst (λ (row : List Word). Sends (state c.next_row.new.scheduler c.put.new.self row) (with_columns 1 new x)) (sym whole)
          (put_sends v.scheduler v.lanes v.row.items x k c.next_row.new.scheduler c.put.new.self new wants (c.next_row.ensures.long ∙ ap length c.deref_mut.ensures.value) (c.next_row.ensures.gives x.given x.words k.gives) q c.put.ensures.going),
    )

pub returns-clause-makes : goal.returns-clause-makes
returns-clause-makes c x h =
    let v = c.self.inside in
    let k = subst (λ (t : State). Sends t x) (sym c.self.view_is) h in
    let new = c.next_row.new.row in
    let wants = ap (λ (t : State). wants_payload t.lanes) c.self.view_is ∙ c.requires.wants in
    let whole : (with_items v.row new).items ≡ new = with_items_is v.row new (c.next_row.ensures.long ∙ c.deref_mut.ensures.len) in
    let q = subst (λ (row : List Word). Stands c.put.new.self (with_row row (progress_of x))) (c.deref.ensures.value ∙ whole) (c.put.ensures.stands (progress_of x) k.stands) in (
      new,
      subst (λ (row : List Word). Sends (state c.next_row.new.scheduler c.put.new.self row) (with_columns 1 new x)) (sym whole)
          (put_sends v.scheduler v.lanes v.row.items x k c.next_row.new.scheduler c.put.new.self new wants (c.next_row.ensures.long ∙ ap length c.deref_mut.ensures.value) (c.next_row.ensures.gives x.given x.words k.gives) q c.put.ensures.going),
    )
