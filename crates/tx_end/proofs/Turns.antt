-- The lanes in turn.
use Rattle.std.proofs.Common.{ℕ, ◌≡◌, ◌≢◌, sym, ◌∙◌, ◌+◌, ◌<◌, ◌≤◌, List, [], ◌∷◌, length, get_or, arith, subst, inl, inr}
use Rattle.std.proofs.Math.ListN.{set}
use Rattle.std.proofs.lemmas.Bool.{cases_lt}
use Rattle.std.proofs.lemmas.List.{get_or-set_same, get_or-set_other, length-set}
use Rattle.tx_end.specs.declared.lane_writer.LaneWriter.{LaneWriter}
use Rattle.tx_end.specs.Lanes.{InTurn}

pub first_lane : (xs : List LaneWriter) → 0 < length xs → LaneWriter
first_lane [] h = absurd (omega (arith, h))
first_lane (x ∷ xs) h = x

-- the lane whose turn it is has its, and the others keep theirs
pub one_turn : (n turn : ℕ) (lanes : List LaneWriter) (bytes more : ℕ → List ℕ) (before after : ℕ → LaneWriter → List ℕ → Type 0) (l : LaneWriter) → InTurn n turn lanes bytes before after → turn < n →
    ((i : ℕ) → i < n → i ≢ turn → more i ≡ bytes i) → after turn l (more turn) → InTurn n (turn + 1) (set lanes turn l) more before after
one_turn n turn lanes bytes more before after l k low same now = record {
  count = length-set lanes turn l ∙ k.count;
  had = λ i d h there. elim (cases_lt i turn) [
    | inl b ↦ apart i d there (λ e. omega (arith, b, e)) after (k.had i d b there)
    | inr b ↦
        let e : turn ≡ i = omega (arith, h, b) in
        subst (λ (m : ℕ). after m (get_or (set lanes turn l) m d) (more m)) e
        (subst (λ (x : LaneWriter). after turn x (more turn)) (sym (get_or-set_same lanes turn l d (omega (arith, low, k.count)))) now)
  ];
  still = λ i d h there. apart i d there (λ e. omega (arith, h, e)) before (k.still i d (omega (arith, h)) there);
}
  where
    apart : (i : ℕ) (d : LaneWriter) → i < n → i ≢ turn → (P : ℕ → LaneWriter → List ℕ → Type 0) → P i (get_or lanes i d) (bytes i) → P i (get_or (set lanes turn l) i d) (more i)
    apart i d there other P p =
        subst (λ (x : LaneWriter). P i x (more i)) (sym (get_or-set_other lanes turn i l d other))
        (subst (λ (x : List ℕ). P i (get_or lanes i d) x) (sym (same i there other)) p)

-- the same bytes, said otherwise
pub same_turn : (n turn : ℕ) (lanes : List LaneWriter) (bytes more : ℕ → List ℕ) (before after : ℕ → LaneWriter → List ℕ → Type 0) → InTurn n turn lanes bytes before after → ((i : ℕ) → more i ≡ bytes i) → InTurn n turn lanes more before after
same_turn n turn lanes bytes more before after k same = record {
  count = k.count;
  had = λ i d h there. subst (λ (x : List ℕ). after i (get_or lanes i d) x) (sym (same i)) (k.had i d h there);
  still = λ i d h there. subst (λ (x : List ℕ). before i (get_or lanes i d) x) (sym (same i)) (k.still i d h there);
}

-- all have had theirs, and the next round begins
pub next_turn : (n turn : ℕ) (lanes : List LaneWriter) (bytes more : ℕ → List ℕ) (before after first last : ℕ → LaneWriter → List ℕ → Type 0) → InTurn n turn lanes bytes before after → n ≤ turn → ((i : ℕ) → more i ≡ bytes i) →
    ((i : ℕ) (l : LaneWriter) (b : List ℕ) → i < n → after i l b → first i l b) → InTurn n 0 lanes more first last
next_turn n turn lanes bytes more before after first last k all same next = record {
  count = k.count;
  had = λ i d h there. absurd (omega (arith, h));
  still = λ i d h there. subst (λ (x : List ℕ). first i (get_or lanes i d) x) (sym (same i)) (next i (get_or lanes i d) (bytes i) there (k.had i d (omega (arith, there, all)) there));
}
