-- The ring of the ready channels is one: what stands in it, in the order of keys, leaves no choice.
use Rattle.std.proofs.Common.{◌≡◌, ◌≢◌, ℕ, suc, ◌<◌, List, [], ◌∷◌, length, slice_index, Contains, refl, sym, ap, ap₂, subst, ◌∙◌, arith, inl, inr}
use Rattle.std.specs.declared.cmp.Ordering.TheVariants.{Less}
use Rattle.std.proofs.lemmas.Bool.{cases_eq}
use Rattle.std.proofs.lemmas.List.Elements.{All-contains}
use Rattle.stream_model.specs.BurstStream.{Mark, Source, IsReady, key, mark_cmp}
use Rattle.stream_model.proofs.OneStream.{one_less}
use Rattle.lk_base.specs.declared.word.Word.{Word}
use Rattle.lk_index_lists.specs.Held.{Held}
use Rattle.burst_scheduler.specs.Ring.{HoldsReady, OneReadyList, ring_list}
use Rattle.burst_scheduler.proofs.Lines.{IsOrdered, head_in, head_least, in_cases, none_in, tail_in}

-- the list after its head
after_head : (P : ℕ → Type 0) (key : ℕ → Mark) (x : ℕ) (xs : List ℕ) → IsOrdered P key (x ∷ xs) → IsOrdered (λ c. P c × (c ≢ x)) key xs
after_head P key x xs o = record {
  exact = λ c. (
    (λ h. ((o.exact c).0 (tail_in x c xs h), λ e. one_less (key x) (key c) (later c h) (subst (λ n. mark_cmp (key c) (key n) ≡ Less) e (subst (λ n. mark_cmp (key n) (key c) ≡ Less) (sym e) (later c h))))),
    (λ h. elim (in_cases x c xs ((o.exact c).1 h.0)) [ inl e ↦ absurd (h.1 (sym e)) | inr i ↦ i ]),
  );
  ordered = λ i j d h l. (let a : suc i < suc j = omega (arith, h) in let b : suc j < length (x ∷ xs) = omega (arith, l) in o.ordered (suc i) (suc j) d a b);
}
  where
    later : (c : ℕ) → Contains xs c → mark_cmp (key x) (key c) ≡ Less
    later c h =
        let low : 0 < suc h.0 = omega arith in
        let high : suc h.0 < length (x ∷ xs) = omega (arith, h.1) in
        ap (λ n. mark_cmp (key x) (key n)) (sym h.2) ∙ o.ordered 0 (suc h.0) c low high

-- lists of the same things in the order of one key are one
pub ordered_once : (P : ℕ → Type 0) (key : ℕ → Mark) (xs ys : List ℕ) → IsOrdered P key xs → IsOrdered P key ys → xs ≡ ys
ordered_once P key [] [] o q = refl
ordered_once P key [] (y ∷ ys) o q = absurd (none_in y ((o.exact y).1 ((q.exact y).0 (head_in y ys))))
ordered_once P key (x ∷ xs) [] o q = absurd (none_in x ((q.exact x).1 ((o.exact x).0 (head_in x xs))))
ordered_once P key (x ∷ xs) (y ∷ ys) o q =
    let a = head_least P key x xs o in
    let b = head_least P key y ys q in
    elim (cases_eq x y) [
      | inl e ↦ ap₂ (λ z zs. z ∷ zs) e (ordered_once (λ c. P c × (c ≢ x)) key xs ys (after_head P key x xs o) (subst (λ z. IsOrdered (λ c. P c × (c ≢ z)) key ys) (sym e) (after_head P key y ys q)))
      | inr ne ↦ absurd (one_less (key x) (key y) (a.1 y b.0 (λ z. ne (sym z))) (b.1 x a.0 ne))
    ]

-- the places of a ring that holds the ready channels
ready_ordered : (r : Held) (source : Source) (before : List Word) → HoldsReady r source before →
    IsOrdered (λ p. (p < length source.channels) × IsReady source before (slice_index source.channels p)) (λ p. key source before (slice_index source.channels p)) (ring_list r)
ready_ordered r source before h = record {
  exact = λ p. (
    (λ i. let there = All-contains (λ q. q < length source.channels) (ring_list r) p h.listed i in (there, (h.exact p there).0 i)),
    (λ i. (h.exact p i.0).1 i.1),
  );
  ordered = h.ordered;
}

pub one_ready : OneReadyList
one_ready r q source before h k =
    ordered_once _ (λ p. key source before (slice_index source.channels p)) (ring_list r) (ring_list q) (ready_ordered r source before h) (ready_ordered q source before k)
