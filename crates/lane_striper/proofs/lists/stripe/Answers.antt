-- One list more.
use Rattle.std.proofs.Common.{◌≡◌, ℕ, sym, ap, ◌∙◌, ◌+◌, List, [], ◌∷◌, ◌++◌, map, arith}
use Rattle.std.specs.List.{range_with_len}
use Rattle.std.proofs.lemmas.List.{map_push}
use Rattle.std.proofs.lemmas.List.FromFn.{map-range_with_len_more}
use Rattle.lk_base.specs.declared.word.Word.{Word}
use Rattle.lane_model.specs.Striping.{lane_payload}
use Rattle.lane_striper.proofs.lists.stripe.Goals as goal

more : {X : Type 0} (f : X → List Word) (lists pushed : List X) (list : X) (lanes lane : ℕ) (words : List Word) →
    map f lists ≡ map (lane_payload lanes words) (range_with_len 0 lane) → f list ≡ lane_payload lanes words lane → pushed ≡ lists ++ list ∷ [] →
    map f pushed ≡ map (lane_payload lanes words) (range_with_len 0 (lane + 1))
more f lists pushed list lanes lane words e h g =
    ap (map f) g
    ∙ map_push f lists list
    ∙ ap (λ x. map f lists ++ x ∷ []) h
    ∙ ap (λ xs. xs ++ lane_payload lanes words lane ∷ []) e
    ∙ sym (map-range_with_len_more (lane_payload lanes words) 0 lane lane (omega arith))

pub loop-lane-preserved : goal.loop-lane-preserved
loop-lane-preserved c =
    more (λ list. list.items) c.loop-lane.lists.items c.push.new.self.items c.in_ok-list.list c.args.lanes c.loop-lane.lane c.args.words.now c.loop-lane.invariant c.in_ok-list.ensures c.in_ok-push.ensures.items
