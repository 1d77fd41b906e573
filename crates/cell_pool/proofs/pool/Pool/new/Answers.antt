use Rattle.std.proofs.Common.{◌≡◌, ◌∙◌, ◌+◌, ◌*◌, ◌^◌, ◌<◌, ℕ, List, [], length, replicate, slice_index, sym, ap, subst, arith}
use Rattle.std.specs.List.{sum_by}
use Rattle.std.proofs.lemmas.List.{get_or-replicate, length-replicate}
use Rattle.lk_index_lists.specs.Held.{Held, list_at}
use Rattle.cell_pool.specs.Stored.{Stored, cells_for}
use Rattle.cell_pool.proofs.Shown.{lists_fresh}
use Rattle.cell_pool.proofs.Late.{none_used}
use Rattle.cell_pool.proofs.pool.Pool.new.Goals as goal

stored : ℕ → List (List ℕ) → Stored
stored cells lists = record { cells = cells; lists = lists }

pub returns : goal.returns
unfolding stored
returns c =
    ap (stored c.link_all.new.chains.nodes) (lists_fresh c.link_all.new.chains.lists c.in_ok-words.words c.in_ok-lengths.lengths.items c.args.places (c.in_ok-lengths.ensures.items_if_clones_equal (λ y e. e)))
    ∙ ap (λ k. stored k (replicate c.args.places [])) (c.link_all.ensures.nodes ∙ ap (λ (h : Held). h.nodes) c.in_ok-chains.ensures.value)

pub invariant_of-result : goal.invariant_of-result
invariant_of-result c =
    let places : ℕ = c.args.places in
    let lists : List (List ℕ) = c.link_all.new.chains.lists in
    let lengths : List ℕ = c.in_ok-lengths.lengths.items in
    let nodes : c.link_all.new.chains.nodes ≡ c.args.cells = c.link_all.ensures.nodes ∙ ap (λ (h : Held). h.nodes) c.in_ok-chains.ensures.value in
    let zeros : lengths ≡ replicate places 0 = c.in_ok-lengths.ensures.items_if_clones_equal (λ y e. e) in
    let long : length lengths ≡ places = ap (length {A = ℕ}) zeros ∙ length-replicate places 0 in
    let many : length lists ≡ places + 1 = c.link_all.ensures.long ∙ ap (λ (h : Held). length h.lists) c.in_ok-chains.ensures.value ∙ length-replicate (places + 1) [] in
    record {
      apart = c.link_all.ensures.apart;
      small = subst (λ k. k < 2 ^ 26) (sym nodes) c.requires.cells;
      room = c.in_ok-words.ensures.long ∙ ap (λ k. 8 * k) (sym nodes);
      places = omega (arith, many, long);
      few = omega (arith, long, c.requires.places);
      counts = λ p h.
          let inside : p < places = omega (arith, h, long) in
          let none : slice_index lengths p ≡ 0 = ap (λ v. slice_index v p) zeros ∙ get_or-replicate places p 0 0 inside in
          ap length (c.link_all.ensures.others p (λ e. absurd (omega (arith, e, inside)))) ∙ sym (ap cells_for none);
      left = ap (λ k. length (list_at lists k)) long ∙ c.link_all.ensures.all;
      all = (let used : sum_by cells_for lengths ≡ 0 = ap (sum_by cells_for) zeros ∙ none_used places in omega (arith, used, nodes));
    }
