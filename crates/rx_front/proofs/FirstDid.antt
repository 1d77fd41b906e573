-- Loops that change the elements of a list in place, one by one.
use Rattle.std.proofs.Common.{ℕ, ◌≡◌, refl, ◌∙◌, ◌+◌, ◌<◌, ◌≤◌, List, length, get_or, set, arith, inl, inr}
use Rattle.std.proofs.lemmas.Bool.{cases_lt}
use Rattle.std.proofs.lemmas.List.{get_or-set_other, get_or-set_same, get_or_default, length-set}

-- the first i elements did, and the others are as they were
pub record FirstDid {A : Type 0} (R : ℕ → A → A → Type 0) (i : ℕ) (old now : List A) : Type 0 where
  pub same : length now ≡ length old
  pub did : (j : ℕ) (d e : A) → j < i → j < length old → R j (get_or old j d) (get_or now j e)
  pub kept : (j : ℕ) (d : A) → i ≤ j → get_or now j d ≡ get_or old j d

pub did_none : {A : Type 0} (R : ℕ → A → A → Type 0) (old : List A) → FirstDid R 0 old old
did_none R old = record { same = refl; did = λ j d e lt there. absurd (omega (arith, lt)); kept = λ j d le. refl }

-- one more did
pub did_more : {A : Type 0} (R : ℕ → A → A → Type 0) (i : ℕ) (old now : List A) (d w : A) → i < length old → FirstDid R i old now → R i (get_or now i d) w → FirstDid R (i + 1) old (set now i w)
did_more {A} R i old now d w lt h k = record {
  same = length-set now i w ∙ h.same;
  did = λ j e f below there. elim (cases_lt j i) [
    | inl less ↦ (rw (get_or-set_other now i j w f (λ at. absurd (omega (arith, less, at)))) (h.did j e f less there))
    | inr more ↦ (
        let at : i ≡ j = omega (arith, below, more) in
        let is = get_or-set_same now i w f (let n = h.same in omega (arith, n, lt)) in
        let was = get_or_default now i d e (let n = h.same in omega (arith, n, lt)) ∙ h.kept i e (omega arith) in
        rw (← at, is, ← was) k)
  ];
  kept = λ j e le. get_or-set_other now i j w e (λ at. absurd (omega (arith, le, at))) ∙ h.kept j e (omega (arith, le));
}

-- what they did is also this
pub did_as : {A : Type 0} (R S : ℕ → A → A → Type 0) (i : ℕ) (old now : List A) → ((j : ℕ) (v w : A) → j < i → R j v w → S j v w) → FirstDid R i old now → FirstDid S i old now
did_as R S i old now also h = record { same = h.same; did = λ j d e lt there. also j (get_or old j d) (get_or now j e) lt (h.did j d e lt there); kept = h.kept }
