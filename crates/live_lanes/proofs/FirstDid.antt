-- Loops that change the lanes of a list in place, one by one.
use Rattle.std.proofs.Common.{ℕ, ◌≡◌, refl, ◌∙◌, ◌+◌, ◌<◌, ◌≤◌, true, List, length, get_or, set, arith, inl, inr}
use Rattle.std.proofs.lemmas.Bool.{cases_lt}
use Rattle.std.specs.List.{list_all}
use Rattle.std.proofs.lemmas.List.Sums.{AllPass-from_list_all}
use Rattle.std.proofs.lemmas.List.{get_or-set_other, get_or-set_same, get_or_default, length-set}
use Rattle.live_lanes.specs.States.{Lane}
use Rattle.live_lanes.specs.Lanes.{AreEach, lane_has_room}

-- the first i lanes did, and the others are as they were
pub record FirstDid (R : ℕ → Lane → Lane → Type 0) (i : ℕ) (old now : List Lane) : Type 0 where
  pub same : length now ≡ length old
  pub did : (j : ℕ) (d e : Lane) → j < i → j < length old → R j (get_or old j d) (get_or now j e)
  pub kept : (j : ℕ) (d : Lane) → i ≤ j → get_or now j d ≡ get_or old j d

module _ (R : ℕ → Lane → Lane → Type 0) where
  pub did_none : (old : List Lane) → FirstDid R 0 old old
  did_none old = record { same = refl; did = λ j d e lt there. absurd (omega (arith, lt)); kept = λ j d le. refl }

  -- one more did
  pub did_more : (i : ℕ) (old now : List Lane) (d w : Lane) → i < length old → FirstDid R i old now → R i (get_or now i d) w → FirstDid R (i + 1) old (set now i w)
  did_more i old now d w lt h k = record {
    same = length-set now i w ∙ h.same;
    did = λ j e f below there. elim (cases_lt j i) [
      | inl less ↦ (rw (get_or-set_other now i j w f (λ at. absurd (omega (arith, less, at)))) (h.did j e f less there))
      | inr more ↦ (
          let at : i ≡ j = omega (arith, below, more) in
          let is = get_or-set_same now i w f (let n = h.same in omega (arith, n, lt)) in
          let was = get_or_default now i d e (let n = h.same in omega (arith, n, lt)) ∙ h.kept i e (omega arith) in
          rw (← at, is, ← was) k)
    ];
    kept = λ j e le. get_or-set_other now i j w e (λ at. absurd (omega (arith, le, at))) ∙ h.kept j e (omega (arith, le));
  }

  pub all_did : (i : ℕ) (old now : List Lane) → length old ≤ i → FirstDid R i old now → AreEach R old now
  all_did i old now le h = record { same = h.same; each = λ j d e lt. h.did j d e (omega (arith, lt, le)) lt }

  -- the next lane is still so
  pub next_is : (P : Lane → Type 0) (i : ℕ) (old now : List Lane) (d : Lane) → i < length old → FirstDid R i old now → ((j : ℕ) (e : Lane) → j < length old → P (get_or old j e)) → P (get_or now i d)
  next_is P i old now d lt h is = rw (h.kept i d (omega arith)) (is i d lt)

  pub next_has_room : (i : ℕ) (old now : List Lane) (d : Lane) → i < length old → FirstDid R i old now → list_all lane_has_room old ≡ true → lane_has_room (get_or now i d) ≡ true
  next_has_room i old now d lt h room = next_is (λ l. lane_has_room l ≡ true) i old now d lt h (AllPass-from_list_all lane_has_room old room)
