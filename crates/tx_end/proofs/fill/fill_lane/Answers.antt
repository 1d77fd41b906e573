-- The bytes are the first of the block.
use Rattle.std.proofs.Common.{ℕ, ◌≡◌, ◌+◌, ◌++◌, ◌∙◌, List, length, take, drop, sym, ap, subst, append-nil, arith}
use Rattle.std.proofs.lemmas.List.{drop_all, take_all}
use Rattle.lane_model.specs.Striping.{lane_payload}
use Rattle.tx_end.specs.Lanes.{HasFilled}
use Rattle.tx_end.proofs.fill.fill_lane.Goals as goal

-- a list that was lent whole is what was written into it
written_back : (n : ℕ) (new old : List ℕ) → length new ≡ n → length old ≡ n → take n (new ++ drop (length new) old) ≡ new
written_back n new old e f = rw (drop_all (length new) old (omega (arith, e, f)), append-nil new) (take_all n new (omega (arith, e)))

pub returns-clause-fills : goal.returns-clause-fills
returns-clause-fills c given made before h =
    let s = c.args.link.now in
    let count = c.fill_block-count.result in
    let old = c.set_count.new.bytes in
    let long = c.deref_mut.ensures.len in
    let items : List ℕ = old.items in
    let back = written_back old.len c.fill_block-count.new.block items (c.fill_block-count.auto.block ∙ long) (ap (λ (b : List ℕ). length b) (sym c.deref_mut.ensures.value) ∙ long) in
    subst (λ (b : List ℕ). HasFilled c.fill_block-count.new.lane s c.args.number (given ++ lane_payload s.lanes c.args.group.now c.args.number) (made + 1) (before ++ b))
    (sym (c.truncate.ensures.items ∙ ap (λ (b : List ℕ). take count b) back))
    (c.fill_block-count.ensures given made before h)
