-- One list of samples is written of a calendar and local rows.
use Rattle.std.proofs.Common.{◌≡◌, ℕ, zero, suc, ◌+◌, ◌-◌, ◌*◌, ◌/◌, ◌%◌, ◌<◌, ◌≤◌, max, List, [], ◌∷◌, length, replicate, All, refl, sym, ap, ◌∙◌, inl, inr, arith}
use Rattle.std.specs.List.{flat_map, range_with_len}
use Rattle.std.proofs.lemmas.Bool.{cases_lt}
use Rattle.std.proofs.lemmas.List.{length_push}
use Rattle.std.proofs.Math.Nat.{mul-suc, mul-le-mul_left}
use Rattle.std.proofs.lemmas.List.Elements.{All-nil, All-cons, All-head, All-tail}
use Rattle.lk_base.proofs.LeastLemmas.{one_least}
use Rattle.stream_model.specs.declared.rows.LocalRow.{LocalRow}
use Rattle.oob_flow.specs.Frames.{frame_length, block_sizes}
use Rattle.oob_flow.specs.Written.{AreWritten, BeginsAfterRows, written_frame}

pub one : (entries : List ℕ) (local : List LocalRow) (first second : List ℕ) → AreWritten entries local first → AreWritten entries local second → first ≡ second
one entries local first second a b =
    let same : a.last ≡ b.last = one_least (BeginsAfterRows entries local) a.last b.last a.is_last b.is_last in
    a.frames ∙ ap (λ (n : ℕ). flat_map (written_frame entries local) (range_with_len 0 (n + 1))) same ∙ sym b.frames

-- the greatest slot of a row
greatest : List LocalRow → ℕ
greatest [] = 0
greatest (row ∷ rows) = max row.slot (greatest rows)

reaches : (local : List LocalRow) (n : ℕ) → greatest local ≤ n → All (λ (row : LocalRow). row.slot ≤ n) local
unfolding greatest
reaches [] n h = All-nil (λ (row : LocalRow). row.slot ≤ n)
reaches (row ∷ rows) n h = All-cons (λ (r : LocalRow). r.slot ≤ n) row rows (omega arith) (reaches rows n (omega arith))

reached : (local : List LocalRow) (n : ℕ) → All (λ (row : LocalRow). row.slot ≤ n) local → greatest local ≤ n
unfolding greatest
reached [] n h = omega arith
reached (row ∷ rows) n h =
    let here : row.slot ≤ n = All-head (λ (r : LocalRow). r.slot ≤ n) row rows h in
    let rest : greatest rows ≤ n = reached rows n (All-tail (λ (r : LocalRow). r.slot ≤ n) row rows h) in
    omega arith

-- the first multiple of a number that is not 0 from a number on
first_multiple : (f g : ℕ) → 1 ≤ f → (n : ℕ) × ((g ≤ f * n) × ((m : ℕ) → m < n → g ≤ f * m → ⊥))
first_multiple f zero h = (0, (omega arith, λ m l k. absurd (omega arith)))
first_multiple f (suc g) h =
    let before = first_multiple f g h in
    elim (cases_lt g (f * before.0)) [
      | inl more ↦ (before.0, (omega arith, λ m l k. before.1.1 m l (omega arith)))
      | inr same ↦ (suc before.0, (last f before.0 g h before.1.0 (omega arith), λ m l k. none f before.0 g m before.1.0 (omega arith) l k))
    ]
  where
    last : (f n g : ℕ) → 1 ≤ f → g ≤ f * n → f * n ≤ g → suc g ≤ f * suc n
    last f n g h a b = let e : f * suc n ≡ f * n + f = mul-suc f n in omega arith

    none : (f n g m : ℕ) → g ≤ f * n → f * n ≤ g → m < suc n → suc g ≤ f * m → ⊥
    none f n g m a b l k = let e : f * m ≤ f * n = mul-le-mul_left f (omega arith) in omega arith

pub frame_long : (n : ℕ) → 1 ≤ n → 1 ≤ frame_length n
unfolding frame_length
frame_long n h = omega arith

-- a frame has samples, also one of no entry: its checksum
frame_some : (n : ℕ) → 1 ≤ frame_length n
unfolding frame_length block_sizes
frame_some n = let l = length_push (replicate ((n - 1) / 64) 64) ((n - 1) % 64 + 1) in omega (arith, l)

-- any calendar and any local rows have samples that are written
pub written : (entries : List ℕ) (local : List LocalRow) → (samples : List ℕ) × AreWritten entries local samples
written entries local =
    let f : ℕ = frame_length (length entries) in
    let n = first_multiple f (greatest local) (frame_some (length entries)) in (
      flat_map (written_frame entries local) (range_with_len 0 (n.0 + 1)),
      record {
        last = n.0;
        is_last = (reaches local (f * n.0) n.1.0, λ m l k. n.1.1 m l (reached local (f * m) k));
        frames = refl;
      },
    )

pub some : (entries : List ℕ) (local : List LocalRow) → 1 ≤ length entries → (samples : List ℕ) × AreWritten entries local samples
some entries local h = written entries local
