-- One lane of all.
use Rattle.std.proofs.Common.{ℕ, ◌≡◌, refl, sym, ap, ◌∙◌, subst, ◌+◌, ◌<◌, List, [], ◌∷◌, ◌++◌, length, get_or, set, arith, inl, inr, Result}
use Rattle.std.proofs.Math.Seq.{get_or-append_seam}
use Rattle.std.proofs.lemmas.Bool.{cases_lt}
use Rattle.std.proofs.lemmas.List.{get_or_append_left, get_or_default}
use Rattle.lk_base.specs.Link.{Settings}
use Rattle.live_inspector.specs.Calls.{NoneDueBelow, OnLane}
use Rattle.live_inspector.specs.Lanes.{IsFresh, Lane}
use Rattle.live_inspector.specs.declared.misuse.Misuse.{Misuse}

-- a call on a lane that is there
pub on_lane : (X : Type 0) (call : Lane → Lane → Result X Misuse → Type 0) (old now : List Lane) (lane : ℕ) (result : Result X Misuse) (l m d : Lane) → old ≡ now → lane < length old → l ≡ get_or old lane d →
    call l m result → OnLane call now (set old lane m) lane result
on_lane X call old now lane result l m d same lt is does =
    subst (λ (ls : List Lane). OnLane call ls (set old lane m) lane result) same (inr (lt, (l, m, (λ e. get_or_default old lane e d lt ∙ sym is, does, refl))))

-- one more lane is made
pub one_fresh : (s : Settings) (old now : List Lane) (lane : Lane) (n : ℕ) → now ≡ old ++ lane ∷ [] → length old ≡ n → ((i : ℕ) (d : Lane) → i < n → IsFresh s (get_or old i d)) → IsFresh s lane →
    (i : ℕ) (d : Lane) → i < n + 1 → IsFresh s (get_or now i d)
one_fresh s old now lane n same count each fresh i d lt =
    subst (λ (xs : List Lane). IsFresh s (get_or xs i d)) (sym same)
    (elim (cases_lt i n) [
      | inl l ↦ subst (λ (x : Lane). IsFresh s x) (sym (get_or_append_left old (lane ∷ []) d i (omega (arith, l, count)))) (each i d l)
      | inr l ↦
          let e : length old ≡ i = omega (arith, lt, l, count) in
          subst (λ (x : Lane). IsFresh s x) (sym (get_or-append_seam old lane [] d) ∙ ap (λ m. get_or (old ++ lane ∷ []) m d) e) fresh
    ])

-- nothing is due on one more lane
pub none_due_more : (n : ℕ) (lanes : List Lane) (lane d : Lane) → lane ≡ get_or lanes n d → lane.due ≡ [] → NoneDueBelow n lanes → NoneDueBelow (n + 1) lanes
none_due_more n lanes lane d is none below i e lt there = elim (cases_lt i n) [
  | inl l ↦ below i e l there
  | inr l ↦
      let at : n ≡ i = omega (arith, lt, l) in
      subst (λ (x : Lane). x.due ≡ []) (is ∙ get_or_default lanes n d e (omega (arith, at, there)) ∙ ap (λ k. get_or lanes k e) at) none
]
