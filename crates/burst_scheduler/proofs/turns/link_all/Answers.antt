use Rattle.std.proofs.Common.{◌≡◌, ◌<◌, ◌+◌, ◌∙◌, ◌++◌, ◌∷◌, [], ℕ, Bool, false, nat_lt, length, filter, take, get_or, if◌then◌else◌, refl, sym, ap, subst, arith, append-nil}
use Rattle.std.specs.Option.{option_map_or}
use Rattle.std.proofs.lemmas.List.{length-map, length-set}
use Rattle.std.proofs.Common.{List, Contains}
use Rattle.lk_index_lists.specs.Held.{IsApart}
use Rattle.std.proofs.lemmas.Option.{slice_get_read}
use Rattle.burst_scheduler.specs.Ring.{ring_list, has_chunk, places_of}
use Rattle.burst_scheduler.specs.declared.queue.Queue.{Queue}
use Rattle.burst_scheduler.proofs.Rings.{now_holds, in_ring, filter_out, kept_more, place_of_pair, take_place, not_before}
use Rattle.burst_scheduler.proofs.turns.link_all.Goals as goal
use Rattle.burst_scheduler.proofs.turns.link_all.Goals.{then-is_left, else-is_left}

many : (order : List (ℕ × ℕ)) → length (places_of order) ≡ length order
many order = length-map order (λ (pair : ℕ × ℕ). pair.1)

pub bounds-queues-place : goal.bounds-queues-place
bounds-queues-place c =
    let t = c.loop-i-test.true in
    let n = many c.args.order.now in
    subst (λ (p : ℕ). p < length c.args.queues.now) (place_of_pair c.args.order.now c.loop-i.i t) (c.requires.queues c.loop-i.i 0 (omega (arith, t, n)))

pub push_back-requires-clause-node : goal.push_back-requires-clause-node
push_back-requires-clause-node c =
    let t = c.loop-i-test.true in
    let n = many c.args.order.now in
    subst (λ m. (get_or c.args.order.now c.loop-i.i (0, 0)).1 < m) (sym c.loop-i.invariant.size.0) (subst (λ (p : ℕ). p < c.args.ring.now.nodes) (place_of_pair c.args.order.now c.loop-i.i t) (c.requires.nodes c.loop-i.i 0 (omega (arith, t, n))))

pub push_back-requires-clause-free : goal.push_back-requires-clause-free
push_back-requires-clause-free c linked =
    let place : ℕ = (get_or c.args.order.now c.loop-i.i (0, 0)).1 in
    let one : length c.loop-i.ring.lists ≡ 1 = c.loop-i.invariant.size.1 ∙ c.requires.one in
    let before = filter_out (has_chunk c.args.queues.now) (take c.loop-i.i (places_of c.args.order.now)) place (subst (λ xs. Contains xs place) c.loop-i.invariant.line (in_ring c.loop-i.ring place one linked)) in
    not_before c.args.order.now c.loop-i.i c.loop-i-test.true c.requires.apart before.0

module _ (c : goal.Joined-is_left) where
  abbrev place : ℕ
  place = (get_or c.args.order.now c.loop-i.i (0, 0)).1

  inside : place < length c.args.queues.now
  inside = let t = c.loop-i-test.true in let n = many c.args.order.now in subst (λ (p : ℕ). p < length c.args.queues.now) (place_of_pair c.args.order.now c.loop-i.i t) (c.requires.queues c.loop-i.i 0 (omega (arith, t, n)))

  asked : has_chunk c.args.queues.now place ≡ c.is_left.result
  asked = ap (λ o. option_map_or (λ (q : Queue). nat_lt q.packet (length q.packets.items)) o false) (slice_get_read c.args.queues.now (length c.args.queues.now) place c.index-queues-place.result refl inside c.index-queues-place.is) ∙ sym c.is_left.ensures.packet

  next : filter (has_chunk c.args.queues.now) (take (c.loop-i.i + 1) (places_of c.args.order.now)) ≡ ring_list c.loop-i.ring ++ (if c.is_left.result then place ∷ [] else [])
  next = ap (filter (has_chunk c.args.queues.now)) (take_place c.args.order.now c.loop-i.i c.loop-i-test.true) ∙ kept_more (has_chunk c.args.queues.now) (take c.loop-i.i (places_of c.args.order.now)) place
      ∙ ap (λ xs. xs ++ (if has_chunk c.args.queues.now place then place ∷ [] else [])) (sym c.loop-i.invariant.line) ∙ ap (λ (b : Bool). ring_list c.loop-i.ring ++ (if b then place ∷ [] else [])) asked

pub loop-i-preserved : goal.loop-i-preserved
loop-i-preserved c =
    let one : length c.loop-i.ring.lists ≡ 1 = c.loop-i.invariant.size.1 ∙ c.requires.one in
    let few = c.loop-i.invariant.links in
    elim c.if-is_left.branch [
      | then-is_left w ↦ (
          let is = w.ring-is ∙ w.push_back.ensures.value in
          record {
            line = now_holds c.loop-i.ring c.if-is_left.ring _ one is ∙ ap (λ (b : Bool). ring_list c.loop-i.ring ++ (if b then place c ∷ [] else [])) (sym w.if-is_left.true) ∙ sym (next c);
            size = (ap (λ r. r.nodes) is ∙ c.loop-i.invariant.size.0, ap (λ r. length r.lists) is ∙ length-set c.loop-i.ring.lists 0 _ ∙ c.loop-i.invariant.size.1);
            apart = subst IsApart (sym w.ring-is) w.push_back.ensures.apart;
            links = (let e = ap (λ r. r.links) is in omega (arith, e, few));
          })
      | else-is_left w ↦ record {
        line = ap ring_list w.ring-is ∙ sym (append-nil (ring_list c.loop-i.ring)) ∙ ap (λ (b : Bool). ring_list c.loop-i.ring ++ (if b then place c ∷ [] else [])) (sym w.if-is_left.false) ∙ sym (next c);
        size = (ap (λ r. r.nodes) w.ring-is ∙ c.loop-i.invariant.size.0, ap (λ r. length r.lists) w.ring-is ∙ c.loop-i.invariant.size.1);
        apart = subst IsApart (sym w.ring-is) c.loop-i.invariant.apart;
        links = (let e = ap (λ r. r.links) w.ring-is in omega (arith, e, few));
      }
    ]
