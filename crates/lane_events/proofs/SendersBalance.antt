-- The codes of a sender are never unbalanced, from whichever word on they are counted.
use Rattle.std.proofs.Common.{ℕ, zero, suc, ◌≡◌, sym, ap, ◌∙◌, subst, ◌+◌, ◌*◌, ◌^◌, ◌<◌, ◌≤◌, List, [], ◌∷◌, ◌++◌, length, take, drop, sum_by, arith, append_assoc, append-nil}
use Rattle.std.specs.Prelude.{ℤ, pos, negsuc, ◌+ℤ◌, ◌≤ℤ◌, All, false}
use Rattle.std.specs.Int.Count.{ones_in}
use Rattle.std.proofs.Math.Seq.{take-add}
use Rattle.std.proofs.lemmas.Int.{ints}
use Rattle.std.proofs.lemmas.List.{length-append}
use Rattle.std.proofs.lemmas.List.Sums.{sum_by-append}
use Rattle.lk_base.specs.declared.word.Word.{Word}
use Rattle.lk_base.specs.declared.word.Word.TheVariants.{Data}
use Rattle.lk_base.specs.Words.{payload}
use Rattle.lane_model.specs.Coding.{code_behind, codes_behind, codes_of, disparity, excess}
use Rattle.lane_model.proofs.CodesOfWords.{none-codes, one_more-codes}
use Rattle.lane_model.proofs.Disparities.{bounds, disparity_runs, none-disparity}
use Rattle.lane_events.specs.Balance.{is_far_off}
use Rattle.lane_events.specs.EventLaw.{SendersAreBalanced}
use Rattle.lane_events.proofs.Balances.{sum-le}

excess-both : (a b s t n m : ℕ) → n ≡ a + b → m ≡ s + t → s ≤ 67 * a → t ≤ 67 * b → excess (67 * n) m ≡ excess (67 * a) s +ℤ excess (67 * b) t
excess-both a b s t n m e f h k = omega (arith, ints, e, f, h, k)

disparity-append : (xs ys : List ℕ) → disparity (xs ++ ys) ≡ disparity xs +ℤ disparity ys
unfolding disparity
disparity-append xs ys =
    excess-both (length xs) (length ys) (sum_by (ones_in 67) xs) (sum_by (ones_in 67) ys) (length (xs ++ ys)) (sum_by (ones_in 67) (xs ++ ys))
    (length-append xs ys) (sum_by-append (ones_in 67) xs ys) (sum-le xs) (sum-le ys)

-- as far apart as a sender lets them be
abbrev IsNear : ℤ → Type 0
IsNear n = (negsuc 64 ≤ℤ n) × (n ≤ℤ pos 64)

near : (before : List ℕ) (words : List Word) (k : ℕ) → All (λ w. payload w < 2 ^ 64) words → IsNear (disparity before) → IsNear (disparity (before ++ take k (codes_behind before words)))
near before words zero small h = subst (λ (codes : List ℕ). IsNear (disparity codes)) (sym (append-nil before)) h
near before [] (suc k) small h = subst (λ (codes : List ℕ). IsNear (disparity (before ++ take (suc k) codes))) (sym (none-codes before)) (subst (λ (codes : List ℕ). IsNear (disparity codes)) (sym (append-nil before)) h)
near before (w ∷ words) (suc k) small h =
    let c = code_behind before w in
    let low = small 0 (Data 0) (omega arith) in
    let next = disparity_runs.step before w low in
    let b = bounds (disparity before) (payload w) h.0 h.1 in
    let rest = near (before ++ c ∷ []) words k (λ i d lt. small (suc i) d (omega (arith, lt))) (subst (λ (n : ℤ). IsNear n) (sym next) b) in
    subst (λ (codes : List ℕ). IsNear (disparity (before ++ take (suc k) codes))) (sym (one_more-codes before w words))
    (subst (λ (codes : List ℕ). IsNear (disparity codes)) (append_assoc before (c ∷ []) (take k (codes_behind (before ++ c ∷ []) words))) rest)

prefix : (words : List Word) (k : ℕ) → All (λ w. payload w < 2 ^ 64) words → IsNear (disparity (take k (codes_of words)))
prefix words k small = near [] words k small (subst (λ (n : ℤ). IsNear n) (sym none-disparity) (omega (arith, ints), omega (arith, ints)))

between : (a b c : ℤ) → IsNear a → IsNear c → c ≡ a +ℤ b → is_far_off b ≡ false
between a b c h k e = grind (arith, ints)

pub senders_are_balanced : SendersAreBalanced
senders_are_balanced words m n small =
    between (disparity (take m (codes_of words))) (disparity (take n (drop m (codes_of words)))) (disparity (take (m + n) (codes_of words)))
    (prefix words m small) (prefix words (m + n) small)
    (ap disparity (take-add m n (codes_of words)) ∙ disparity-append (take m (codes_of words)) (take n (drop m (codes_of words))))
