-- Words of which only the first are written, and zeros after them.
use Rattle.std.proofs.Common.{ℕ, ◌≡◌, inl, inr, ◌+◌, ◌-◌, ◌*◌, ◌<◌, ◌≤◌, List, [], ◌∷◌, ◌++◌, length, set, replicate, slice_index, refl, sym, ap, ◌∙◌, arith, append_assoc, length-append}
use Rattle.std.specs.List.{sum_by}
use Rattle.std.proofs.lemmas.Bool.{cases_lt}
use Rattle.std.proofs.lemmas.List.{set-append_left, length-set, length-replicate, replicate-append-replicate, get_or-replicate, get_or_append_left, get_or-append-add, get_or_past}
use Rattle.std.proofs.lemmas.List.Folds.{sum_by-replicate}
use Rattle.cell_pool.specs.Stored.{cells_for}
use Rattle.cell_pool.specs.Cells.{with_run}
use Rattle.cell_pool.proofs.Filled.{run_long}

-- the written words and the zeros after them, as many as there are words
abbrev pub late : List ℕ → ℕ → List ℕ
late xs all = xs ++ replicate (all - length xs) 0

pub late_long : (xs : List ℕ) (all : ℕ) → length xs ≤ all → length {A = ℕ} (late xs all) ≡ all
late_long xs all h =
    let l : length {A = ℕ} (late xs all) ≡ length xs + length {A = ℕ} (replicate (all - length xs) 0) = length-append xs (replicate (all - length xs) 0) in
    let z : length {A = ℕ} (replicate (all - length xs) 0) ≡ all - length xs = length-replicate (all - length xs) 0 in
    omega (arith, l, z, h)

pub late_fill_long : (xs ys : List ℕ) (end : ℕ) → ys ≡ late xs end → length ys ≡ length xs + (end - length xs)
late_fill_long xs ys end is = ap (length {A = ℕ}) is ∙ length-append xs (replicate (end - length xs) 0) ∙ ap (λ n. length xs + n) (length-replicate (end - length xs) 0)

-- zeros that are written change nothing
pub late_filled : (xs ys : List ℕ) (end all : ℕ) → ys ≡ late xs end → end ≤ all → length xs ≤ all → late ys all ≡ late xs all
late_filled xs ys end all is fits few =
    let m : ℕ = end - length xs in
    let z : length {A = ℕ} (replicate m 0) ≡ m = length-replicate m 0 in
    let l : length (xs ++ replicate m 0) ≡ length xs + length {A = ℕ} (replicate m 0) = length-append xs (replicate m 0) in
    let rest : all - length (xs ++ replicate m 0) ≡ all - (length xs + m) = omega (arith, l, z) in
    let sum : m + (all - (length xs + m)) ≡ all - length xs = omega (arith, fits, few) in
    ap (λ v. late v all) is
    ∙ ap (λ n. (xs ++ replicate m 0) ++ replicate n 0) rest
    ∙ append_assoc xs (replicate m 0) (replicate (all - (length xs + m)) 0)
    ∙ ap (λ v. xs ++ v) (replicate-append-replicate m (all - (length xs + m)) 0)
    ∙ ap (λ n. xs ++ replicate n 0) sum

-- a word, and words one after another, put into the written ones
pub late_set : (xs : List ℕ) (all k x : ℕ) → k < length xs → late (set xs k x) all ≡ set (late xs all) k x
late_set xs all k x h = ap (λ n. set xs k x ++ replicate (all - n) 0) (length-set xs k x) ∙ sym (set-append_left xs (replicate (all - length xs) 0) k x h)

pub run_front : (xs ys : List ℕ) (at : ℕ) (zs : List ℕ) → at + length zs ≤ length xs → with_run (xs ++ ys) at zs ≡ with_run xs at zs ++ ys
run_front xs ys at [] h = refl
run_front xs ys at (z ∷ zs) h =
    let l : length (set xs at z) ≡ length xs = length-set xs at z in
    ap (λ v. with_run v (at + 1) zs) (set-append_left xs ys at z (omega (arith, h))) ∙ run_front (set xs at z) ys (at + 1) zs (omega (arith, h, l))

pub late_run : (xs : List ℕ) (all at : ℕ) (zs : List ℕ) → at + length zs ≤ length xs → late (with_run xs at zs) all ≡ with_run (late xs all) at zs
late_run xs all at zs h = ap (λ n. with_run xs at zs ++ replicate (all - n) 0) (run_long xs at zs) ∙ sym (run_front xs (replicate (all - length xs) 0) at zs h)

-- a word that is written, and one that is not
pub late_here : (xs : List ℕ) (all k : ℕ) → k < length xs → slice_index (late xs all) k ≡ slice_index xs k
late_here xs all k h = get_or_append_left xs (replicate (all - length xs) 0) 0 k h

pub zero_at : (n k : ℕ) → slice_index (replicate n 0) k ≡ 0
zero_at n k = elim (cases_lt k n) [
  | inl h ↦ get_or-replicate n k 0 0 h
  | inr h ↦ get_or_past (replicate n 0) k 0 (let l : length {A = ℕ} (replicate n 0) ≡ n = length-replicate n 0 in omega (arith, l, h))
]

pub late_past : (xs : List ℕ) (all k : ℕ) → length xs ≤ k → slice_index (late xs all) k ≡ 0
late_past xs all k h =
    let e : k ≡ length xs + (k - length xs) = omega (arith, h) in
    ap (slice_index (late xs all)) e ∙ get_or-append-add xs (replicate (all - length xs) 0) (k - length xs) 0 ∙ zero_at (all - length xs) (k - length xs)

-- lists of no bytes use no cell
pub none_used : (m : ℕ) → sum_by cells_for (replicate m 0) ≡ 0
none_used m = let used : sum_by cells_for (replicate m 0) ≡ m * 0 = sum_by-replicate cells_for m 0 in omega (arith, used)
