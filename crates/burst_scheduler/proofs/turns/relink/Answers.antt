use Rattle.std.proofs.Common.{◌≡◌, ◌∙◌, ◌++◌, ◌∷◌, [], true, false, if◌then◌else◌, IsTrue, sym, ap, append-nil}
use Rattle.lk_index_lists.specs.Held.{without, IsLinked}
use Rattle.burst_scheduler.specs.Ring.{ring_list}
use Rattle.burst_scheduler.proofs.Rings.{not_linked, now_holds}
use Rattle.burst_scheduler.proofs.turns.relink.Goals as goal
use Rattle.burst_scheduler.proofs.turns.relink.Goals.{else-stays-via-then-stays+else-linked, else-stays-via-else-stays}

pub returns-then-stays-2-clause-line : goal.returns-then-stays-2-clause-line
returns-then-stays-2-clause-line c =
    let never : IsLinked c.args.ring.now.lists c.args.place → ⊥ = elim c.else-stays.branch [
      | else-stays-via-then-stays+else-linked w ↦ (λ h. let t : IsTrue c.is_linked-linked.result = c.is_linked-linked.ensures.linked.1 h in let f : c.is_linked-linked.result ≡ false = w.if-linked.false in cc)
      | else-stays-via-else-stays w ↦ (λ h. let t : true ≡ false = sym c.if-stays-2.true ∙ w.if-stays.false in cc)
    ] in
    now_holds c.args.ring.now c.push_back.new.self _ c.requires.one c.push_back.ensures.value ∙ ap (λ xs. xs ++ c.args.place ∷ []) (sym (not_linked c.args.ring.now c.args.place never))
    ∙ ap (λ b. without c.args.place (ring_list c.args.ring.now) ++ (if b then c.args.place ∷ [] else [])) (sym c.if-stays-2.true)

pub returns-else-linked-2-clause-line : goal.returns-else-linked-2-clause-line
returns-else-linked-2-clause-line c =
    let never : IsLinked c.args.ring.now.lists c.args.place → ⊥ = λ h. let t : IsTrue c.is_linked-linked.result = c.is_linked-linked.ensures.linked.1 h in let f : c.is_linked-linked.result ≡ false = c.if-linked-2.false in cc in
    sym (not_linked c.args.ring.now c.args.place never) ∙ sym (append-nil (without c.args.place (ring_list c.args.ring.now)))
    ∙ ap (λ b. without c.args.place (ring_list c.args.ring.now) ++ (if b then c.args.place ∷ [] else [])) (sym c.if-stays-2.false)
